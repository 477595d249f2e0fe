-- Derivations with how many nodes they have, so that a derivation isn't a part of itself.
use Rattle.std.proofs.Common.{◌≡◌, ◌+◌, ℕ, zero, suc, List, [], ◌∷◌, ◌++◌}
use Rattle.std.specs.Prelude.{Some, slice_get}
use Rattle.pg_tree.specs.Trees.{Tree}
use Rattle.pg_grammar_form.specs.Operators.{Operator}
use Rattle.pg_grammar_form.specs.Forms.{Node}
use Rattle.pg_grammar_form.specs.declared.form.Form.TheVariants as form
use Rattle.pg_grammar_form.specs.declared.form.Leaf.{Leaf}
use Rattle.pg_grammar_form.specs.declared.form.Around.{Around}
use Rattle.pg_grammar_form.specs.declared.side.Side.{Side}
use Rattle.pg_grammar_form.specs.declared.operators_item.OperatorsItem.{OperatorsItem}
use Rattle.pg_grammar_form.specs.declared.used.ChainBuilder.{ChainBuilder}
use Rattle.pg_grammar_form.specs.declared.used.OperatorBuilders.{OperatorBuilders}
use Rattle.pg_grammar_value.specs.Grammar.{Grammar}
use Rattle.pg_grammar_value.specs.declared.grammar.Rule as declared
use Rattle.pg_grammar_value.specs.declared.trail.TrailItem.{TrailItem}
use Rattle.pg_grammar_value.specs.declared.trail.TrailItem.TheVariants.{Alt, Rounds, Ops}
use Rattle.pg_table.specs.Fitting.{Expression, term, prefixed, postfixed, joined, IsFitting}
use Rattle.pg_table.specs.Trails.{operators_read}
use Rattle.pg_language.specs.Runs.{IsOperatorAt}
use Rattle.pg_language.specs.Derives as derives
use Rattle.pg_language.specs.Derives.{Spot, at, Link, folded, applied, made_by, left_by, Reads, Derives, DerivesForm, DerivesParts, DerivesRounds, DerivesLinks, DerivesExpression}

mutual
  pub data Sized (g : Grammar) (text : List ℕ) : ℕ → ℕ → Spot → Spot → List Tree → List TrailItem → Type 0 where
    at_node : {m p : ℕ} {n : Node} {a b : Spot} {forest : List Tree} {trail : List TrailItem} → slice_get g.nodes p ≡ Some n → SizedForm g text m n a b forest trail →
        Sized g text (suc m) p a b forest trail

  pub data SizedForm (g : Grammar) (text : List ℕ) : ℕ → Node → Spot → Spot → List Tree → List TrailItem → Type 0 where
    leaf : {l : Leaf ℕ} {a b : Spot} {forest : List Tree} → Reads g text l a b forest → SizedForm g text zero (form.Leaf l) a b forest []
    seq : {m : ℕ} {parts : List ℕ} {a b : Spot} {forest : List Tree} {trail : List TrailItem} → SizedParts g text m parts a b forest trail → SizedForm g text m (form.Seq parts) a b forest trail
    choice : {m : ℕ} {parts : List ℕ} {k p : ℕ} {a b : Spot} {forest : List Tree} {trail : List TrailItem} → slice_get parts k ≡ Some p → Sized g text m p a b forest trail →
        SizedForm g text m (form.Choice parts) a b forest (Alt (suc k) ∷ trail)
    many : {m p n : ℕ} {a b : Spot} {forest : List Tree} {trail : List TrailItem} → SizedRounds g text m p n a b forest trail → SizedForm g text m (form.Many p) a b forest (Rounds n ∷ trail)
    chain : {m l : ℕ} {side : Side} {used : ChainBuilder} {p s n : ℕ} {a b c : Spot} {first : List Tree} {links : List Link} {trail items : List TrailItem} →
        Sized g text m p a b first trail → SizedLinks g text l p s n b c links items →
        SizedForm g text (m + l) (form.Chain side used p s) a c (folded side used.shape first links) (Rounds n ∷ (trail ++ items))
    rule : {m r : ℕ} {named : declared.Rule} {a b : Spot} {forest : List Tree} {trail : List TrailItem} → slice_get g.rules r ≡ Some named → Sized g text m named.body a b forest trail →
        SizedForm g text m (form.Rule r) a b forest trail
    expression : {m : ℕ} {builders : OperatorBuilders} {item : OperatorsItem} {p : ℕ} {x : Expression} {a b : Spot} {forest : List Tree} {trail : List TrailItem} → g.operators ≡ Some item →
        IsFitting a.table.operators x → SizedExpression g text m item builders p x a b forest trail → SizedForm g text m (form.Expression builders p) a b forest (Ops (operators_read x) ∷ trail)
    around : {m : ℕ} {k : Around} {p : ℕ} {a b : Spot} {forest : List Tree} {trail : List TrailItem} → Sized g text m p a b forest trail →
        SizedForm g text m (form.Around k p) a (left_by k a b) (made_by k text a.place b.place forest) trail

  pub data SizedParts (g : Grammar) (text : List ℕ) : ℕ → List ℕ → Spot → Spot → List Tree → List TrailItem → Type 0 where
    no_part : {a : Spot} → SizedParts g text zero [] a a [] []
    first_part : {m l p : ℕ} {parts : List ℕ} {a b c : Spot} {forest others : List Tree} {trail items : List TrailItem} → Sized g text m p a b forest trail →
        SizedParts g text l parts b c others items → SizedParts g text (m + l) (p ∷ parts) a c (forest ++ others) (trail ++ items)

  pub data SizedRounds (g : Grammar) (text : List ℕ) : ℕ → ℕ → ℕ → Spot → Spot → List Tree → List TrailItem → Type 0 where
    no_round : {p : ℕ} {a : Spot} → SizedRounds g text zero p zero a a [] []
    first_round : {m l p n : ℕ} {a b c : Spot} {forest others : List Tree} {trail items : List TrailItem} → Sized g text m p a b forest trail →
        SizedRounds g text l p n b c others items → SizedRounds g text (m + l) p (suc n) a c (forest ++ others) (trail ++ items)

  pub data SizedLinks (g : Grammar) (text : List ℕ) : ℕ → ℕ → ℕ → ℕ → Spot → Spot → List Link → List TrailItem → Type 0 where
    no_link : {p s : ℕ} {a : Spot} → SizedLinks g text zero p s zero a a [] []
    first_link : {m l k p s n : ℕ} {a b c d : Spot} {separator operand : List Tree} {links : List Link} {trail items others : List TrailItem} → Sized g text m s a b separator trail →
        Sized g text l p b c operand items → SizedLinks g text k p s n c d links others →
        SizedLinks g text (m + l + k) p s (suc n) a d ((separator, operand) ∷ links) (trail ++ items ++ others)

  pub data SizedExpression (g : Grammar) (text : List ℕ) : ℕ → OperatorsItem → OperatorBuilders → ℕ → Expression → Spot → Spot → List Tree → List TrailItem → Type 0 where
    a_term : {m : ℕ} {item : OperatorsItem} {builders : OperatorBuilders} {p : ℕ} {a b : Spot} {forest : List Tree} {trail : List TrailItem} → Sized g text m p a b forest trail →
        SizedExpression g text m item builders p term a b forest trail
    a_prefix : {m : ℕ} {item : OperatorsItem} {builders : OperatorBuilders} {p : ℕ} {o : Operator} {x : Expression} {j : ℕ} {a b : Spot} {forest : List Tree} {trail : List TrailItem} →
        IsOperatorAt g text item o.symbol a.place j → SizedExpression g text m item builders p x (at a j) b forest trail →
        SizedExpression g text m item builders p (prefixed o x) a b (applied builders.prefix o forest) trail
    a_postfix : {m : ℕ} {item : OperatorsItem} {builders : OperatorBuilders} {p : ℕ} {o : Operator} {x : Expression} {j : ℕ} {a b : Spot} {forest : List Tree} {trail : List TrailItem} →
        SizedExpression g text m item builders p x a b forest trail → IsOperatorAt g text item o.symbol b.place j →
        SizedExpression g text m item builders p (postfixed o x) a (at b j) (applied builders.postfix o forest) trail
    an_infix : {m l : ℕ} {item : OperatorsItem} {builders : OperatorBuilders} {p : ℕ} {o : Operator} {x y : Expression} {j : ℕ} {a b c : Spot} {left right : List Tree} {trail items : List TrailItem} →
        SizedExpression g text m item builders p x a b left trail → IsOperatorAt g text item o.symbol b.place j → SizedExpression g text l item builders p y (at b j) c right items →
        SizedExpression g text (m + l) item builders p (joined o x y) a c (applied builders.infix o (left ++ right)) (trail ++ items)

-- each derivation has a size
mutual
  pub sized : {g : Grammar} {text : List ℕ} {p : ℕ} {a b : Spot} {v : List Tree} {u : List TrailItem} → Derives g text p a b v u → (m : ℕ) × Sized g text m p a b v u
  sized (derives.at_node is d) = let s = sized_form d in (suc s.0, at_node is s.1)

  sized_form : {g : Grammar} {text : List ℕ} {n : Node} {a b : Spot} {v : List Tree} {u : List TrailItem} → DerivesForm g text n a b v u → (m : ℕ) × SizedForm g text m n a b v u
  sized_form (derives.leaf r) = (zero, leaf r)
  sized_form (derives.seq d) = let s = sized_parts d in (s.0, seq s.1)
  sized_form (derives.choice got d) = let s = sized d in (s.0, choice got s.1)
  sized_form (derives.many d) = let s = sized_rounds d in (s.0, many s.1)
  sized_form (derives.chain d ds) = let s = sized d in let t = sized_links ds in (s.0 + t.0, chain s.1 t.1)
  sized_form (derives.rule there d) = let s = sized d in (s.0, rule there s.1)
  sized_form (derives.expression there fit d) = let s = sized_expression d in (s.0, expression there fit s.1)
  sized_form (derives.around d) = let s = sized d in (s.0, around s.1)

  sized_parts : {g : Grammar} {text : List ℕ} {ps : List ℕ} {a b : Spot} {v : List Tree} {u : List TrailItem} → DerivesParts g text ps a b v u → (m : ℕ) × SizedParts g text m ps a b v u
  sized_parts derives.no_part = (zero, no_part)
  sized_parts (derives.first_part d ds) = let s = sized d in let t = sized_parts ds in (s.0 + t.0, first_part s.1 t.1)

  sized_rounds : {g : Grammar} {text : List ℕ} {p n : ℕ} {a b : Spot} {v : List Tree} {u : List TrailItem} → DerivesRounds g text p n a b v u → (m : ℕ) × SizedRounds g text m p n a b v u
  sized_rounds derives.no_round = (zero, no_round)
  sized_rounds (derives.first_round d ds) = let s = sized d in let t = sized_rounds ds in (s.0 + t.0, first_round s.1 t.1)

  sized_links : {g : Grammar} {text : List ℕ} {p q n : ℕ} {a b : Spot} {ls : List Link} {u : List TrailItem} → DerivesLinks g text p q n a b ls u → (m : ℕ) × SizedLinks g text m p q n a b ls u
  sized_links derives.no_link = (zero, no_link)
  sized_links (derives.first_link d e ds) = let s = sized d in let t = sized e in let r = sized_links ds in (s.0 + t.0 + r.0, first_link s.1 t.1 r.1)

  pub sized_expression : {g : Grammar} {text : List ℕ} {item : OperatorsItem} {builders : OperatorBuilders} {p : ℕ} {x : Expression} {a b : Spot} {v : List Tree} {u : List TrailItem} →
      DerivesExpression g text item builders p x a b v u → (m : ℕ) × SizedExpression g text m item builders p x a b v u
  sized_expression (derives.a_term d) = let s = sized d in (s.0, a_term s.1)
  sized_expression (derives.a_prefix is d) = let s = sized_expression d in (s.0, a_prefix is s.1)
  sized_expression (derives.a_postfix d is) = let s = sized_expression d in (s.0, a_postfix s.1 is)
  sized_expression (derives.an_infix d is e) = let s = sized_expression d in let t = sized_expression e in (s.0 + t.0, an_infix s.1 is t.1)

-- and is one without it
mutual
  pub plain : {g : Grammar} {text : List ℕ} {m p : ℕ} {a b : Spot} {v : List Tree} {u : List TrailItem} → Sized g text m p a b v u → Derives g text p a b v u
  plain (at_node is d) = derives.at_node is (plain_form d)

  plain_form : {g : Grammar} {text : List ℕ} {m : ℕ} {n : Node} {a b : Spot} {v : List Tree} {u : List TrailItem} → SizedForm g text m n a b v u → DerivesForm g text n a b v u
  plain_form (leaf r) = derives.leaf r
  plain_form (seq d) = derives.seq (plain_parts d)
  plain_form (choice got d) = derives.choice got (plain d)
  plain_form (many d) = derives.many (plain_rounds d)
  plain_form (chain d ds) = derives.chain (plain d) (plain_links ds)
  plain_form (rule there d) = derives.rule there (plain d)
  plain_form (expression there fit d) = derives.expression there fit (plain_expression d)
  plain_form (around d) = derives.around (plain d)

  plain_parts : {g : Grammar} {text : List ℕ} {m : ℕ} {ps : List ℕ} {a b : Spot} {v : List Tree} {u : List TrailItem} → SizedParts g text m ps a b v u → DerivesParts g text ps a b v u
  plain_parts no_part = derives.no_part
  plain_parts (first_part d ds) = derives.first_part (plain d) (plain_parts ds)

  plain_rounds : {g : Grammar} {text : List ℕ} {m p n : ℕ} {a b : Spot} {v : List Tree} {u : List TrailItem} → SizedRounds g text m p n a b v u → DerivesRounds g text p n a b v u
  plain_rounds no_round = derives.no_round
  plain_rounds (first_round d ds) = derives.first_round (plain d) (plain_rounds ds)

  plain_links : {g : Grammar} {text : List ℕ} {m p q n : ℕ} {a b : Spot} {ls : List Link} {u : List TrailItem} → SizedLinks g text m p q n a b ls u → DerivesLinks g text p q n a b ls u
  plain_links no_link = derives.no_link
  plain_links (first_link d e ds) = derives.first_link (plain d) (plain e) (plain_links ds)

  pub plain_expression : {g : Grammar} {text : List ℕ} {m : ℕ} {item : OperatorsItem} {builders : OperatorBuilders} {p : ℕ} {x : Expression} {a b : Spot} {v : List Tree} {u : List TrailItem} →
      SizedExpression g text m item builders p x a b v u → DerivesExpression g text item builders p x a b v u
  plain_expression (a_term d) = derives.a_term (plain d)
  plain_expression (a_prefix is d) = derives.a_prefix is (plain_expression d)
  plain_expression (a_postfix d is) = derives.a_postfix (plain_expression d) is
  plain_expression (an_infix d is e) = derives.an_infix (plain_expression d) is (plain_expression e)

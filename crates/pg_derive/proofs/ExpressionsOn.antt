-- What is derived of an expression leads on in the text, and begins with what its first term or operator begins with.
use Rattle.std.proofs.Common.{◌≡◌, ◌≤◌, ℕ, List, ◌∷◌, refl}
use Rattle.pg_tree.specs.Trees.{Tree}
use Rattle.pg_grammar_value.specs.Grammar.{Grammar}
use Rattle.pg_grammar_form.specs.declared.form.Form.TheVariants as form
use Rattle.pg_grammar_form.specs.declared.operators_item.OperatorsItem.{OperatorsItem}
use Rattle.pg_grammar_form.specs.declared.used.OperatorBuilders.{OperatorBuilders}
use Rattle.pg_grammar_value.specs.declared.trail.TrailItem.{TrailItem}
use Rattle.pg_grammar_value.specs.declared.trail.TrailItem.TheVariants.{Ops}
use Rattle.pg_table.specs.Fitting.{Expression}
use Rattle.pg_table.specs.Tables.{ComesFrom}
use Rattle.pg_table.proofs.Added.{still_comes}
use Rattle.pg_language.specs.Derives.{Spot, DerivesForm, DerivesExpression}
use Rattle.pg_language.specs.Derives as derives
use Rattle.pg_language.specs.RowReactions.{operators_of, items_of}
use Rattle.pg_language.proofs.Onward.{expression_on}

pub expression_forward : {g : Grammar} {text : List ℕ} {item : OperatorsItem} {builders : OperatorBuilders} {q : ℕ} {x : Expression} {a b : Spot} {v : List Tree} {t : List TrailItem} →
    DerivesExpression g text item builders q x a b v t → a.place ≤ b.place
expression_forward d = (expression_on d).onward

pub expression_comes : {g : Grammar} {text : List ℕ} {item : OperatorsItem} {builders : OperatorBuilders} {q : ℕ} {x : Expression} {a b : Spot} {v : List Tree} {t : List TrailItem} →
    DerivesExpression g text item builders q x a b v t → ComesFrom g a.table → ComesFrom g b.table
expression_comes {g = g} {a = a} {b = b} d from = let on = expression_on d in still_comes g a.table b.table on.further from on.proper on.added

-- the trail of a whole expression begins with its operators
pub whole_trail : {g : Grammar} {text : List ℕ} {builders : OperatorBuilders} {q : ℕ} {a b : Spot} {v : List Tree} {t : List TrailItem} → DerivesForm g text (form.Expression builders q) a b v t →
    Ops (operators_of t) ∷ items_of t ≡ t
whole_trail (derives.expression e fits d) = refl

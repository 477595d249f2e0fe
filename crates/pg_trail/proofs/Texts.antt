-- Operators: two texts, and what they are.
use Rattle.std.proofs.Common.{◌≡◌, ◌⊎◌, ℕ, List, ◌∷◌, Option, Some, None, option_map, Result, Ok, Err, inl, inr, refl, ap, ap₂, sym, ◌∙◌, arith}
use Rattle.std.specs.Str.{encode_utf8_all}
use Rattle.json.specs.Token.{Token}
use Rattle.json.specs.Json.{parse_map, after_end_array}
use Rattle.json.proofs.Grammar.{left_none, left_some}
use Rattle.serde_json.specs.Data.{Data, string, array, Items, no_items, item}
use Rattle.pg_grammar_value.specs.declared.trail.Fixity.{Fixity}
use Rattle.pg_grammar_value.specs.declared.trail.Fixity.TheVariants.{Prefix, Infix, Postfix}
use Rattle.pg_grammar_value.specs.declared.trail.AppliedOperator.{AppliedOperator}
use Rattle.pg_trail.specs.declared.trail_fault.TrailFault.{TrailFault}
use Rattle.pg_trail.specs.declared.trail_fault.TrailFault.TheVariants.{NotATrail, Memory}
use Rattle.pg_trail.specs.Ahead.{data_at, items_at, after}
use Rattle.pg_trail.specs.Readings.{IsOnly, Finds, Reads, Skips, pair_of}
use Rattle.pg_trail.specs.TrailJson.{role, two_items, two_texts, operator_value}
use Rattle.pg_trail.proofs.Ahead.{decide, data_array, items_over, item_read, item_refused}
use Rattle.pg_trail.proofs.Turns.{mapped_back, array_same}
use Rattle.pg_trail.proofs.Members.{differ}

-- ---- two texts

abbrev Is : Option (List ℕ) → Data → Type 0
Is (Some s) v = string s ≡ v
Is None v = (s : List ℕ) → ¬ (string s ≡ v)

text_of : (read : Option (Data × List Token)) (left : List Token) (text : Option (List ℕ)) → Reads string read left (Ok text) → (v : Data) × (read ≡ Some (v, left)) × Is text v
text_of read left (Some s) h = (string s, h.0, refl)
text_of read left None h = (h.0, h.1, h.2)

pub no_texts : (d : ℕ) (ts left : List Token) → after_end_array ts ≡ Some left → Reads two_items (items_at d ts) left (Ok None)
no_texts d ts left over = (no_items, items_over d ts left over, λ texts e. cc)

pub no_first : (d : ℕ) (ts left : List Token) (e : TrailFault) → after_end_array ts ≡ None → Reads string (data_at d ts) left (Err e) → Reads two_items (items_at d ts) left (Err e)
no_first d ts left NotATrail going bad = item_refused d ts going bad
no_first d ts left Memory going bad = tt

module _ (d : ℕ) (ts r : List Token) (first : Option (List ℕ)) (going : after_end_array ts ≡ None) (one : Reads string (data_at d ts) r (Ok first)) where
  after_first : (v : Data) × (items_at d ts ≡ parse_map (item v) (items_at d r)) × Is first v
  after_first = let v = text_of (data_at d ts) r first one in (v.0, item_read d ts r v.0 going v.1, v.2)

  pub one_text : (left : List Token) → after_end_array r ≡ Some left → Reads two_items (items_at d ts) left (Ok None)
  one_text left over = (item after_first.0 no_items, after_first.1 ∙ ap (parse_map (item after_first.0)) (items_over d r left over), λ texts e. cc)

  pub no_second : (left : List Token) (e : TrailFault) → after_end_array r ≡ None → Reads string (data_at d r) left (Err e) → Reads two_items (items_at d ts) left (Err e)
  no_second left NotATrail on bad = after_first.1 ∙ ap (parse_map (item after_first.0)) (item_refused d r on bad)
  no_second left Memory on bad = tt

  module _ (s : List Token) (second : Option (List ℕ)) (on : after_end_array r ≡ None) (two : Reads string (data_at d r) s (Ok second)) where
    after_second : (w : Data) × (items_at d ts ≡ parse_map (item after_first.0) (parse_map (item w) (items_at d s))) × Is second w
    after_second = let w = text_of (data_at d r) s second two in (w.0, after_first.1 ∙ ap (parse_map (item after_first.0)) (item_read d r s w.0 on w.1), w.2)

    pub both_texts : (left : List Token) → after_end_array s ≡ Some left → Reads two_items (items_at d ts) left (Ok (pair_of first second))
    both_texts left over =
        let whole : items_at d ts ≡ Some (item after_first.0 (item after_second.0 no_items), left) = after_second.1 ∙ ap (λ o. parse_map (item after_first.0) (parse_map (item after_second.0) o)) (items_over d s left over) in
        paired first second after_first.0 after_second.0 after_first.2 after_second.2 left whole
      where
        paired : (f g : Option (List ℕ)) (v w : Data) → Is f v → Is g w → (left : List Token) → items_at d ts ≡ Some (item v (item w no_items), left) → Reads two_items (items_at d ts) left (Ok (pair_of f g))
        paired (Some f) (Some g) v w is this left whole = (whole ∙ ap₂ (λ x y. Some (item x (item y no_items), left)) (sym is) (sym this), λ other e. pairs other (f, g) e)
          where
            pairs : (a b : List ℕ × List ℕ) → two_items a ≡ two_items b → a ≡ b
            pairs a b e =
                let heads : a.0 ≡ b.0 = cc in
                let tails : a.1 ≡ b.1 = cc in
                ap₂ (λ x y. (x, y)) heads tails
        paired (Some f) None v w is this left whole = (item v (item w no_items), whole, λ texts e. let same : string texts.1 ≡ w = cc in this texts.1 same)
        paired None g v w is this left whole = (item v (item w no_items), whole, λ texts e. let same : string texts.0 ≡ v = cc in is texts.0 same)

    more_items : (left : List Token) → after (items_at d s) ≡ Some left → after_end_array s ≡ None → (x : Data) × (xs : Items) × (items_at d s ≡ Some (item x xs, left))
    more_items left skipped further = by_value (decide (data_at d s))
      where
        by_value : ((data_at d s ≡ None) ⊎ ((p : Data × List Token) × (data_at d s ≡ Some p))) → (x : Data) × (xs : Items) × (items_at d s ≡ Some (item x xs, left))
        by_value (inl bad) = let no = sym (item_refused d s further bad) ∙ (left_some (items_at d s) left skipped).1 in absurd (cc)
        by_value (inr p) =
            let whole = left_some (items_at d s) left skipped in
            let more = mapped_back (item p.0.0) (items_at d p.0.1) whole.0 left (sym (item_read d s p.0.1 p.0.0 further p.1) ∙ whole.1) in
            (p.0.0, more.0, whole.1 ∙ ap (λ ds. Some (ds, left)) (sym more.2))

    pub more_texts : (left : List Token) → after_end_array s ≡ None → after (items_at d s) ≡ Some left → Reads two_items (items_at d ts) left (Ok None)
    more_texts left further skipped =
        let m = more_items left skipped further in
        (item after_first.0 (item after_second.0 (item m.0 m.1)), after_second.1 ∙ ap (λ o. parse_map (item after_first.0) (parse_map (item after_second.0) o)) m.2, λ texts e. cc)

    pub more_fault : (left : List Token) (e : TrailFault) → Skips {U = Unit {0}} (after (items_at d s)) left (Err e) → Reads two_items (items_at d ts) left (Err e)
    more_fault left NotATrail bad = after_second.1 ∙ ap (λ o. parse_map (item after_first.0) (parse_map (item after_second.0) o)) (left_none _ bad)
    more_fault left Memory bad = tt

-- ---- what they are

an_array : (ts : List Token) → data_at 124 (Token.begin_array ∷ ts) ≡ parse_map array (items_at 123 ts)
an_array ts = data_array 124 ts (omega arith)

pub parts_read : (ts left : List Token) (texts : List ℕ × List ℕ) (r : Result (Option AppliedOperator) TrailFault) → (items_at 123 ts ≡ Some (two_items texts, left)) × IsOnly two_items texts
    → Finds operator_value (Some (two_texts texts.0 texts.1)) r → Reads operator_value (data_at 124 (Token.begin_array ∷ ts)) left r
parts_read ts left texts (Ok (Some o)) read h = (an_array ts ∙ ap (parse_map array) read.0 ∙ ap (option_map (λ v. (v, left))) h.0, h.1)
parts_read ts left texts (Ok None) read h = (h.0, an_array ts ∙ ap (parse_map array) read.0 ∙ ap (option_map (λ v. (v, left))) h.1, h.2)
parts_read ts left texts (Err NotATrail) read h = absurd (cc)
parts_read ts left texts (Err Memory) read h = tt

pub no_parts : (ts left : List Token) → Reads two_items (items_at 123 ts) left (Ok None) → Reads operator_value (data_at 124 (Token.begin_array ∷ ts)) left (Ok None)
no_parts ts left h = (array h.0, an_array ts ∙ ap (parse_map array) h.1, λ o is. h.2 (role o.fixity, encode_utf8_all o.symbol) (array_same _ _ is))

pub parts_fault : (ts left : List Token) (e : TrailFault) → Reads two_items (items_at 123 ts) left (Err e) → Reads operator_value (data_at 124 (Token.begin_array ∷ ts)) left (Err e)
parts_fault ts left NotATrail h = an_array ts ∙ ap (parse_map array) h
parts_fault ts left Memory h = tt

role_same : (f g : Fixity) → role f ≡ role g → f ≡ g
role_same Prefix Prefix e = refl
role_same Prefix Infix e = absurd (differ (role Prefix) (role Infix) refl e)
role_same Prefix Postfix e = absurd (cc)
role_same Infix Prefix e = absurd (differ (role Infix) (role Prefix) refl e)
role_same Infix Infix e = refl
role_same Infix Postfix e = absurd (differ (role Infix) (role Postfix) refl e)
role_same Postfix Prefix e = absurd (cc)
role_same Postfix Infix e = absurd (differ (role Postfix) (role Infix) refl e)
role_same Postfix Postfix e = refl

same_texts : (a b c d : List ℕ) → two_texts a b ≡ two_texts c d → (a ≡ c) × (b ≡ d)
same_texts a b c d e =
    let heads : a ≡ c = cc in
    let tails : b ≡ d = cc in
    (heads, tails)

pub operator_found : (r s : List ℕ) (f : Fixity) (symbol : List ℕ) → role f ≡ r → (encode_utf8_all symbol ≡ s) × IsOnly encode_utf8_all symbol
    → Finds operator_value (Some (two_texts r s)) (Ok (Some (record { fixity = f; symbol = symbol })))
operator_found r s f symbol is spells = (
  ap₂ (λ x y. Some (two_texts x y)) (sym is) (sym spells.0),
  λ other e.
      let same = same_texts (role other.fixity) (encode_utf8_all other.symbol) (role f) (encode_utf8_all symbol) e in
      ap₂ (λ (x : Fixity) (y : List ℕ). record { fixity = x; symbol = y }) (role_same other.fixity f same.0) (spells.1 other.symbol same.1),
)

pub no_role : (r s : List ℕ) → ((f : Fixity) → ¬ (role f ≡ r)) → Finds operator_value (Some (two_texts r s)) (Ok None)
no_role r s other = (two_texts r s, refl, λ o e. other o.fixity (same_texts (role o.fixity) (encode_utf8_all o.symbol) r s e).0)

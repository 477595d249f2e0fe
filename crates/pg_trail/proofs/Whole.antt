-- The whole text of a trail.
use Rattle.std.proofs.Common.{◌≡◌, ℕ, List, [], ◌∷◌, Option, Some, Result, Ok, Err, IfOk, ap, sym, ◌∙◌}
use Rattle.std.specs.Str.{IsUtf8}
use Rattle.json.specs.Token.{Token}
use Rattle.json.specs.Lex.{tokens}
use Rattle.serde_json.specs.Data.{Data}
use Rattle.serde_json.specs.Read.{read}
use Rattle.pg_grammar_value.specs.declared.trail.TrailItem.{TrailItem}
use Rattle.pg_trail.specs.declared.trail_fault.TrailFault.{TrailFault}
use Rattle.pg_trail.specs.declared.trail_fault.TrailFault.TheVariants.{NotATrail, Memory}
use Rattle.pg_trail.specs.Ahead.{data_at}
use Rattle.pg_trail.specs.Readings.{IsOnly, Gives, Takes}
use Rattle.pg_trail.specs.TrailJson.{trail_value, IsTrailText}
use Rattle.pg_trail.proofs.Ahead.{text_read, text_back}
use Rattle.pg_trail.proofs.Turns.{pick}

abbrev GivesTrail : List ℕ → Result (List TrailItem) TrailFault → Type 0
GivesTrail text r = Gives (λ trail. Some (trail_value trail)) (read text) r

module _ (text : List ℕ) (ts : List Token) (is : ts ≡ tokens text) where
  taken_back : (d : Data) → read text ≡ Some d → data_at 127 ts ≡ Some (d, [])
  taken_back d e = ap (data_at 127) is ∙ text_back text d e

  pub text_refused : (left : List Token) (e : TrailFault) → Takes trail_value (data_at 127 ts) left (Err e) → GivesTrail text (Err e)
  text_refused left NotATrail none = λ other same. none other [] (taken_back (trail_value other) (sym same))
  text_refused left Memory none = tt

  pub text_whole : (left : List Token) (t : List TrailItem) → (data_at 127 ts ≡ Some (trail_value t, left)) × IsOnly trail_value t → left ≡ [] → GivesTrail text (Ok t)
  text_whole left t h over =
      let whole : read text ≡ Some (trail_value t) = text_read text (trail_value t) (ap (data_at 127) (sym is) ∙ h.0 ∙ ap (λ r. Some (trail_value t, r)) over) in (
        sym whole,
        λ other same. let both : trail_value other ≡ trail_value t = ap (λ o. pick (trail_value other) o) (same ∙ whole) in h.1 other both,
      )

  pub text_longer : (left : List Token) (t : List TrailItem) → (data_at 127 ts ≡ Some (trail_value t, left)) × IsOnly trail_value t → (u : Token) (rest : List Token) → left ≡ u ∷ rest → GivesTrail text (Err NotATrail)
  text_longer left t h u rest more = λ other same.
      let both : ◌≡◌ {A = Option (Data × List Token)} (Some (trail_value t, u ∷ rest)) (Some (trail_value other, [])) =
      ap (λ r. Some (trail_value t, r)) (sym more) ∙ sym h.0 ∙ taken_back (trail_value other) (sym same) in
      let lists : u ∷ rest ≡ [] = ap (λ (o : Option (Data × List Token)). (pick (trail_value t, u ∷ rest) o).1) both in
      absurd (cc)

-- from the text to its bytes
module _ (bytes text : List ℕ) (is : text ≡ bytes) (valid : IsUtf8 bytes) where
  pub trail_found : (r : Result (List TrailItem) TrailFault) → GivesTrail text r → IfOk r (λ trail. IsTrailText bytes trail)
  trail_found (Ok t) h = (valid, ap read (sym is) ∙ sym h.0)
  trail_found (Err e) h = tt

  pub trail_only : (r : Result (List TrailItem) TrailFault) → GivesTrail text r → IfOk r (λ trail. (other : List TrailItem) → IsTrailText bytes other → other ≡ trail)
  trail_only (Ok t) h = λ other o. h.1 other (sym (ap read is ∙ o.1))
  trail_only (Err e) h = tt

  pub no_trail : (r : Result (List TrailItem) TrailFault) → GivesTrail text r → r ≡ Err NotATrail → (trail : List TrailItem) → ¬ (IsTrailText bytes trail)
  no_trail (Ok t) h e trail o = absurd (cc)
  no_trail (Err NotATrail) h e trail o = h trail (sym (ap read is ∙ o.1))
  no_trail (Err Memory) h e trail o = absurd (cc)

-- Ranges that are a class as they stand.
use Rattle.std.proofs.Common.{◌≡◌, ◌≤◌, ◌<◌, ℕ, zero, suc, List, [], ◌∷◌, length, Ok, Err, Result, sym, ◌∙◌, subst, arith}
use Rattle.std.specs.List.{Any, slice_index_or}
use Rattle.serde_json.specs.Data.{Data}
use Rattle.pg_class.specs.Ranges.{Range, IsClass, SameCharacters}
use Rattle.pg_class.proofs.Unique.{same_class}
use Rattle.pg_certificate.specs.declared.certificate_fault.CertificateFault.{CertificateFault}
use Rattle.pg_certificate.specs.Claims.{SaysEach, SaysRange, SaysClass, IsClassAsIs}
use Rattle.pg_certificate.specs.Readings.{Gives}
use Rattle.pg_certificate.proofs.Found.{refused_in}

-- ranges that aren't those of the class of their characters are no class
pub not_as_is : (class ranges other : List Range) → IsClass class → SameCharacters class ranges → (class ≡ ranges → ⊥) → IsClassAsIs ranges other → ⊥
not_as_is class ranges other h same differ said = differ (same_class class ranges h (subst IsClass said.0 said.1) same)

range_ascends : (ranges : List Range) (k : ℕ) (d : Range) → IsClass ranges → k < length ranges → (slice_index_or ranges k d).0 ≤ (slice_index_or ranges k d).1
range_ascends [] k d h within = absurd (omega arith)
range_ascends (r ∷ rs) zero d h within = h.0.ascends
range_ascends (r ∷ rs) (suc k) d h within = range_ascends rs k d h.2 (omega arith)

-- no range of a class descends
pub none_descends : (ranges other : List Range) → Any (λ range. range.1 < range.0) ranges → IsClassAsIs ranges other → ⊥
none_descends ranges other (k, r, within, is, descends) said =
    let up = range_ascends ranges k r (subst IsClass said.0 said.1) within in
    let fits : r.0 ≤ r.1 = subst (λ x. x.0 ≤ x.1) is up in
    absurd (omega arith)

-- the class of ranges that are said is what is said
pub class_given : (ranges : List Range) (d : Data) (r : Result (List Range) CertificateFault) → Gives (SaysEach SaysRange) d (Ok ranges)
    → Gives IsClassAsIs ranges r → Gives SaysClass d r
class_given ranges d (Ok class) said h =
    ((subst (SaysEach SaysRange d) (sym h.0.0) said.0, h.0.1), λ other o. said.1 other o.0 ∙ sym h.0.0)
class_given ranges d (Err e) said h = refused_in IsClassAsIs ranges SaysClass d e (λ whole w. (whole, (said.1 whole w.0, w.1))) h

-- where no ranges are said, no class is
pub ranges_refused : (d : Data) (e : CertificateFault) → Gives (SaysEach SaysRange) d (Err e) → Gives SaysClass d (Err e)
ranges_refused d e h = refused_in (SaysEach SaysRange) d SaysClass d e (λ whole w. (whole, w.0)) h

-- The text of a certificate is read as that certificate.
use Rattle.std.proofs.Common.{◌≡◌, ◌≤◌, ◌<◌, ◌^◌, ℕ, zero, suc, List, [], ◌∷◌, true, false, map, codes, length, slice_get, Some, refl, ap, arith}
use Rattle.std.specs.List.{AllByRecursion}
use Rattle.std.specs.Option.{option_map_or}
use Rattle.std.specs.Str.{encode_utf8_all, IsUtf8}
use Rattle.std.specs.Char.{IsScalar}
use lib.Utf8.{scalar_fits}
use Rattle.json.proofs.Printed.Utf8.{IsUtf8-are_ascii}
use Rattle.serde_json.proofs.Numbers.{number_of-decimal}
use Rattle.serde_json.specs.Data.{Data}
use Rattle.pg_class.specs.Ranges.{Range, IsRange, IsClass}
use Rattle.pg_grammar_form.specs.WordItems.{word_name}
use Rattle.pg_grammar_form.specs.declared.word_item.WordItem.{WordItem}
use Rattle.pg_grammar_value.specs.Grammar.{Grammar}
use Rattle.pg_certificate.specs.declared.certificate.ClaimedStart.{ClaimedStart}
use Rattle.pg_certificate.specs.declared.certificate.ClaimedStart.TheVariants.{Class, Key, Word, Operator, End}
use Rattle.pg_certificate.specs.declared.certificate.RuleClaim.{RuleClaim}
use Rattle.pg_certificate.specs.Claims.{Each, SaysEach, SaysRange, SaysClass, SaysWord, SaysStart}
use Rattle.pg_certificate.specs.Certificates.{SaysClaim, SaysCertificate, IsCertificateText}
use Rattle.pg_certificate.specs.Fitting.{FitsStart, FitsClaim, FitsGrammar, IsStorableStart, IsStorableClaim}
use Rattle.pg_certificate.specs.Values.{number_value, text_value, range_value, class_value, key_value, word_name_at, start_value, starts_value, claim_value, claims_value, certificate_value, certificate_json}
use Rattle.pg_certificate.proofs.Written.{IsWritten, read_again, number_written, flag_written, text_written, each_written, array_written, pair_written, lone_written, member_is_utf8, object_is_utf8, end_is_utf8}

character_fits : (c : ℕ) → IsScalar c → c < 2 ^ 64
character_fits c h = omega (arith, scalar_fits c h)

deeper : (low high : ℕ) (d : Data) → IsWritten low d → low ≤ high → IsWritten high d
deeper low high d w h = record { numbers = w.numbers; shallow = omega (arith, w.shallow, h); back = w.back; utf8 = w.utf8 }

-- ---- what is written comes back

range_written : (r : Range) → IsRange r → IsWritten 1 (range_value r)
range_written r h = pair_written 0 _ _ (number_written r.0 (character_fits r.0 h.first)) (number_written r.1 (character_fits r.1 h.last))

ranges_written : (ranges : List Range) → IsClass ranges → AllByRecursion (λ r. IsWritten 1 (range_value r)) ranges
ranges_written [] h = tt
ranges_written (r ∷ rs) h = (range_written r h.0, ranges_written rs h.2)

class_written : (ranges : List Range) → IsClass ranges → IsWritten 2 (class_value ranges)
class_written ranges h = array_written 1 _ (each_written 1 range_value ranges (ranges_written ranges h))

key_written : (text : List ℕ) (excluded : List Range) → IsUtf8 (encode_utf8_all text) → IsClass excluded → IsWritten 3 (key_value text excluded)
key_written text excluded valid h =
    let w = text_written (encode_utf8_all text) valid in
    let v = class_written excluded h in
    record {
      numbers = (tt, (v.numbers, tt));
      shallow = omega (arith, w.shallow, v.shallow);
      back = rw v.back refl;
      utf8 = object_is_utf8 _ (member_is_utf8 false (codes "key") _ _ (IsUtf8-are_ascii (codes "key") refl) w.utf8
          (member_is_utf8 true (codes "not") _ _ (IsUtf8-are_ascii (codes "not") refl) v.utf8 end_is_utf8));
    }

start_written : (g : Grammar) (start : ClaimedStart) → IsStorableStart g start → IsWritten 3 (start_value g start)
start_written g (Class ranges) h = lone_written 2 (codes "class") _ (IsUtf8-are_ascii (codes "class") refl) (class_written ranges h)
start_written g (Key text excluded) h = key_written text excluded h.0 h.1
start_written g (Word w) h = deeper _ _ _ (lone_written 0 (codes "word") _ (IsUtf8-are_ascii (codes "word") refl) (text_written _ h)) (omega arith)
start_written g Operator h = deeper _ _ _ (text_written (codes "operator") (IsUtf8-are_ascii (codes "operator") refl)) (omega arith)
start_written g End h = deeper _ _ _ (text_written (codes "end") (IsUtf8-are_ascii (codes "end") refl)) (omega arith)

all_starts_written : (g : Grammar) (starts : List ClaimedStart) → AllByRecursion (IsStorableStart g) starts → AllByRecursion (λ start. IsWritten 3 (start_value g start)) starts
all_starts_written g [] h = tt
all_starts_written g (start ∷ starts) h = (start_written g start h.0, all_starts_written g starts h.1)

starts_written : (g : Grammar) (starts : List ClaimedStart) → AllByRecursion (IsStorableStart g) starts → IsWritten 4 (starts_value g starts)
starts_written g starts h = array_written 3 _ (each_written 3 (start_value g) starts (all_starts_written g starts h))

claim_written : (g : Grammar) (claim : RuleClaim) → IsStorableClaim g claim → IsWritten 5 (claim_value g claim)
claim_written g claim h =
    let first = starts_written g claim.first h.first in
    let follow = starts_written g claim.follow h.follow in
    let cost = number_written claim.cost h.cost in
    let nullable = flag_written claim.nullable in
    let small : claim.rank < 2 ^ 64 = omega (arith, h.rank) in
    let rank = number_written claim.rank small in
    let rule = text_written (encode_utf8_all claim.rule) h.rule in
    record {
      numbers = (first.numbers, (follow.numbers, (cost.numbers, (nullable.numbers, (rank.numbers, (tt, tt))))));
      shallow = omega (arith, first.shallow, follow.shallow);
      back = rw (first.back, follow.back, number_of-decimal claim.cost h.cost, number_of-decimal claim.rank small) refl;
      utf8 = object_is_utf8 _ (member_is_utf8 false (codes "first") _ _ (IsUtf8-are_ascii (codes "first") refl) first.utf8
          (member_is_utf8 true (codes "follow") _ _ (IsUtf8-are_ascii (codes "follow") refl) follow.utf8
          (member_is_utf8 true (codes "h") _ _ (IsUtf8-are_ascii (codes "h") refl) cost.utf8
          (member_is_utf8 true (codes "nullable") _ _ (IsUtf8-are_ascii (codes "nullable") refl) nullable.utf8
          (member_is_utf8 true (codes "rank") _ _ (IsUtf8-are_ascii (codes "rank") refl) rank.utf8
          (member_is_utf8 true (codes "rule") _ _ (IsUtf8-are_ascii (codes "rule") refl) rule.utf8 end_is_utf8))))));
    }

all_claims_written : (g : Grammar) (claims : List RuleClaim) → AllByRecursion (IsStorableClaim g) claims → AllByRecursion (λ claim. IsWritten 5 (claim_value g claim)) claims
all_claims_written g [] h = tt
all_claims_written g (claim ∷ claims) h = (claim_written g claim h.0, all_claims_written g claims h.1)

certificate_written : (g : Grammar) (claims : List RuleClaim) → AllByRecursion (IsStorableClaim g) claims → IsWritten 7 (certificate_value g claims)
certificate_written g claims h =
    lone_written 6 (codes "rules") _ (IsUtf8-are_ascii (codes "rules") refl) (array_written 5 _ (each_written 5 (claim_value g) claims (all_claims_written g claims h)))

-- ---- the value stands for what it was written for

ranges_said : (ranges : List Range) → IsClass ranges → Each SaysRange (map range_value ranges) ranges
ranges_said [] h = tt
ranges_said (r ∷ rs) h = ((number_value r.0, number_value r.1, refl, ((refl, h.0.first), (refl, h.0.last))), ranges_said rs h.2)

class_said : (ranges : List Range) → IsClass ranges → SaysClass (class_value ranges) ranges
class_said ranges h = ((map range_value ranges, refl, ranges_said ranges h), h)

word_at : (words : List WordItem) (w : ℕ) → w < length words → (item : WordItem) × (slice_get words w ≡ Some item)
word_at [] w fits = absurd (omega arith)
word_at (x ∷ xs) zero fits = (x, refl)
word_at (x ∷ xs) (suc w) fits = word_at xs w (omega arith)

word_said : (g : Grammar) (w : ℕ) → w < length g.words → SaysWord g (text_value (word_name_at g w)) w
word_said g w fits = let at = word_at g.words w fits in (at.0, at.1, ap (λ found. text_value (option_map_or word_name found [])) at.1)

start_said : (g : Grammar) (start : ClaimedStart) → IsStorableStart g start → FitsStart g start → SaysStart g (start_value g start) start
start_said g (Class ranges) h fits = (refl, (class_value ranges, refl, class_said ranges h))
start_said g (Key text excluded) h fits = (refl, (text_value text, refl, (refl, fits)), (class_value excluded, refl, class_said excluded h.1))
start_said g (Word w) h fits = (refl, (text_value (word_name_at g w), refl, word_said g w fits))
start_said g Operator h fits = (refl, fits)
start_said g End h fits = refl

each_start_said : (g : Grammar) (starts : List ClaimedStart) → AllByRecursion (IsStorableStart g) starts → AllByRecursion (FitsStart g) starts
    → Each (SaysStart g) (map (start_value g) starts) starts
each_start_said g [] h fit = tt
each_start_said g (start ∷ starts) h fit = (start_said g start h.0 fit.0, each_start_said g starts h.1 fit.1)

starts_said : (g : Grammar) (starts : List ClaimedStart) → AllByRecursion (IsStorableStart g) starts → AllByRecursion (FitsStart g) starts
    → SaysEach (SaysStart g) (starts_value g starts) starts
starts_said g starts h fit = (map (start_value g) starts, refl, each_start_said g starts h fit)

claim_said : (g : Grammar) (claim : RuleClaim) → IsStorableClaim g claim → FitsClaim g claim → SaysClaim g (claim_value g claim) claim
claim_said g claim h fit = record {
  keys = refl;
  first = (starts_value g claim.first, refl, starts_said g claim.first h.first fit.0);
  follow = (starts_value g claim.follow, refl, starts_said g claim.follow h.follow fit.1);
  cost = (number_value claim.cost, refl, refl);
  nullable = (_, refl, refl);
  rank = (number_value claim.rank, refl, (refl, h.rank));
  rule = (text_value claim.rule, refl, refl);
}

each_claim_said : (g : Grammar) (claims : List RuleClaim) → AllByRecursion (IsStorableClaim g) claims → AllByRecursion (FitsClaim g) claims
    → Each (SaysClaim g) (map (claim_value g) claims) claims
each_claim_said g [] h fit = tt
each_claim_said g (claim ∷ claims) h fit = (claim_said g claim h.0 fit.0, each_claim_said g claims h.1 fit.1)

certificate_said : (g : Grammar) (claims : List RuleClaim) → AllByRecursion (IsStorableClaim g) claims → FitsGrammar g claims → SaysCertificate g (certificate_value g claims) claims
certificate_said g claims h fits = (refl, (claims_value g claims, refl, ((map (claim_value g) claims, refl, each_claim_said g claims h fits.each), fits.all)))

-- the text of a certificate is that certificate's
pub certificate_is_text : (g : Grammar) (claims : List RuleClaim) → AllByRecursion (IsStorableClaim g) claims → FitsGrammar g claims
    → IsCertificateText g (certificate_json g claims) claims
certificate_is_text g claims h fits =
    let w = certificate_written g claims h in
    (certificate_value g claims, (w.utf8, read_again 7 _ (omega arith) w), certificate_said g claims h fits)

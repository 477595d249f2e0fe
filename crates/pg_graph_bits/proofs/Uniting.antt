-- How far words have been united with others.
use Rattle.std.proofs.Common.{◌≡◌, ◌≢◌, ℕ, ◌+◌, ◌<◌, ◌≤◌, Bool, true, false, inl, inr, List, length, get_or, bit_or, slice_set, ◌||◌, ◌/◌, ◌%◌, eqb, refl, sym, ap, subst, ◌∙◌, arith}
use Rattle.std.specs.Int.{bit_at}
use Rattle.std.proofs.lemmas.Bool.{cases_eq, true≢false, or_from}
use Rattle.std.proofs.lemmas.List.{get_or-set_same, get_or-set_other}
use Rattle.pg_graph_bits.specs.Numbers.{contains, Adds}
use Rattle.pg_graph_bits.specs.Words.{AddsBit, HoldsBelow, has_bit, marks_of}
use Rattle.pg_graph_bits.proofs.Bits.{adds_at, adds_none, or_test, reads, marks_length}

-- the words below some place are united, the others aren't yet
pub record HasUnited (words others new : List ℕ) (grown : Bool) (k : ℕ) : Type 0 where
  pub done : (j : ℕ) → j < k → get_or new j 0 ≡ bit_or (get_or words j 0) (get_or others j 0)
  pub rest : (j : ℕ) → k ≤ j → get_or new j 0 ≡ get_or words j 0
  pub adds : grown ≡ true → AddsBit words others
  pub same : grown ≡ false → (j : ℕ) → j < k → bit_or (get_or words j 0) (get_or others j 0) ≡ get_or words j 0

module _ (words others new : List ℕ) (k : ℕ) (inside : k < length new) where
  abbrev united : List ℕ
  united = slice_set new k (bit_or (get_or new k 0) (get_or others k 0))

  now_done : (grown : Bool) → HasUnited words others new grown k → (j : ℕ) → j < k + 1 → get_or united j 0 ≡ bit_or (get_or words j 0) (get_or others j 0)
  now_done grown has j few =
      elim (cases_eq j k) [
        | inl e ↦
            ap (λ i. get_or united i 0) e
            ∙ (get_or-set_same new k (bit_or (get_or new k 0) (get_or others k 0)) 0 inside
            ∙ (ap (λ w. bit_or w (get_or others k 0)) (has.rest k (omega arith)) ∙ ap (λ i. bit_or (get_or words i 0) (get_or others i 0)) (sym e)))
        | inr ne ↦ get_or-set_other new k j (bit_or (get_or new k 0) (get_or others k 0)) 0 ne ∙ has.done j (omega arith)
      ]

  now_rest : (grown : Bool) → HasUnited words others new grown k → (j : ℕ) → k + 1 ≤ j → get_or united j 0 ≡ get_or words j 0
  now_rest grown has j many = get_or-set_other new k j (bit_or (get_or new k 0) (get_or others k 0)) 0 (λ e. absurd (omega arith)) ∙ has.rest j (omega arith)

  -- a word that changes
  pub changed : (grown : Bool) → HasUnited words others new grown k → get_or new k 0 < 18446744073709551616 → bit_or (get_or new k 0) (get_or others k 0) < 18446744073709551616
      → bit_or (get_or new k 0) (get_or others k 0) ≢ get_or new k 0 → HasUnited words others united true (k + 1)
  changed grown has small fits ne =
      let old : get_or new k 0 ≡ get_or words k 0 = has.rest k (omega arith) in
      record {
        done = now_done grown has;
        rest = now_rest grown has;
        adds = λ e.
            adds_at words others k (subst (λ w. w < 18446744073709551616) old small) (subst (λ w. bit_or w (get_or others k 0) < 18446744073709551616) old fits)
            (subst (λ w. bit_or w (get_or others k 0) ≢ w) old ne);
        same = λ e. absurd (true≢false e);
      }

  -- a word that stays
  pub stays : (grown : Bool) → HasUnited words others new grown k → bit_or (get_or new k 0) (get_or others k 0) ≡ get_or new k 0 → HasUnited words others united grown (k + 1)
  stays grown has same =
      let old : get_or new k 0 ≡ get_or words k 0 = has.rest k (omega arith) in
      record {
        done = now_done grown has;
        rest = now_rest grown has;
        adds = has.adds;
        same = λ e j few. elim (cases_eq j k) [
          | inl at ↦ subst (λ i. bit_or (get_or words i 0) (get_or others i 0) ≡ get_or words i 0) (sym at) (subst (λ w. bit_or w (get_or others k 0) ≡ w) old same)
          | inr ne ↦ has.same e j (omega arith)
        ];
      }

-- at the end
pub grown_is : (words others new : List ℕ) (grown : Bool) (k : ℕ) → HasUnited words others new grown k → length words ≤ k → length words ≡ length others
    → AddsBit words others → grown ≡ true
grown_is words others new true k has all long adds = refl
grown_is words others new false k has all long adds = absurd (adds_none words others long (λ j below. has.same refl j (omega arith)) adds)

-- two sets have one limit where their marks are as long
pub same_limit : (words others : List ℕ) (limit past : ℕ) (set other : List Bool) → marks_of words limit ≡ set → marks_of others past ≡ other → length set ≡ length other → limit ≡ past
same_limit words others limit past set other is other_is long =
    sym (marks_length words limit) ∙ (ap length is ∙ (long ∙ (sym (ap length other_is) ∙ marks_length others past)))

module _ (words others new : List ℕ) (limit : ℕ) (holds : HoldsBelow words limit) (other : HoldsBelow others limit) (long : length new ≡ length words)
    (each : (k : ℕ) → get_or new k 0 ≡ bit_or (get_or words k 0) (get_or others k 0)) where
  bits_united : (n : ℕ) → has_bit new n ≡ (has_bit words n || has_bit others n)
  bits_united n = ap (λ w. eqb (bit_at w (n % 64)) 1) (each (n / 64)) ∙ or_test (get_or words (n / 64) 0) (get_or others (n / 64) 0) (n % 64)

  pub holds_united : HoldsBelow new limit
  holds_united = record {
    small = holds.small;
    long = long ∙ holds.long;
    none_past = λ n past. bits_united n ∙ or_from (has_bit words n) (has_bit others n) (holds.none_past n past) (other.none_past n past);
  }

  pub sets_united : (n : ℕ) → contains (marks_of new limit) n ≡ (contains (marks_of words limit) n || contains (marks_of others limit) n)
  sets_united n =
      reads new limit holds_united n
      ∙ (bits_united n ∙ (ap (λ b. b || has_bit others n) (sym (reads words limit holds n)) ∙ ap (λ b. contains (marks_of words limit) n || b) (sym (reads others limit other n))))

-- bits that are added are numbers that are
module _ (words others : List ℕ) (limit : ℕ) (holds : HoldsBelow words limit) (other : HoldsBelow others limit) where
  pub adds_number : AddsBit words others → Adds (marks_of words limit) (marks_of others limit)
  adds_number adds = record {
    number = adds.number;
    new = reads words limit holds adds.number ∙ adds.new;
    given = reads others limit other adds.number ∙ adds.given;
  }

  pub adds_bit : Adds (marks_of words limit) (marks_of others limit) → AddsBit words others
  adds_bit adds = record {
    number = adds.number;
    new = sym (reads words limit holds adds.number) ∙ adds.new;
    given = sym (reads others limit other adds.number) ∙ adds.given;
  }

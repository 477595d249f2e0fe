-- What `try` answers around a string, and around a string that some characters may not follow.
use Rattle.std.proofs.Common.{◌≡◌, ◌==◌, ◌+◌, ◌⊎◌, inl, inr, ℕ, List, [], ◌∷◌, Bool, true, false, refl, ap, subst, length, Some, slice_get, nat_lt}
use Rattle.pg_grammar_value.specs.Grammar.{Grammar}
use Rattle.pg_grammar_form.specs.declared.class.ClassPart.{ClassPart}
use Rattle.pg_grammar_form.specs.declared.form.Form.TheVariants as form
use Rattle.pg_grammar_form.specs.declared.form.Leaf.TheVariants as leaf
use Rattle.pg_language.specs.Derives.{Spot, after, DerivesForm}
use Rattle.pg_language.specs.Runs.{HasAt, StandsAt}
use Rattle.pg_language.specs.Answers as answers
use Rattle.pg_language.specs.Answers.{Given, Answers, entered, seq, part, part_last, part_failed, part_ok}
use Rattle.pg_language.specs.Errors.{Error, quote, seen_at, stopped_before}
use Rattle.pg_language.specs.Leaves.{taken, matched, string_outcome, not_followed_outcome}
use Rattle.pg_language.specs.Outcomes.{Outcome, failed}
use Rattle.pg_language.proofs.Derived.{WhereOk}
use Rattle.pg_language.proofs.LeavesDerived.{string_derived, not_followed_derived}
use Rattle.pg_derive.proofs.Inverted.{spans_string, spans_nothing}
use Rattle.pg_derive.proofs.LeavesAnswered.{FailsEmpty, StaysOk, if_true, if_false, not_followed_decided}

-- an error
pub record Fails (o : Outcome) : Type 0 where
  pub consumed : Bool
  pub error : Error
  pub is : o ≡ failed consumed error

-- the string stands and is taken, or there is an error
pub string_decided : (g : Grammar) (text s : List ℕ) (a : Spot) → (StandsAt text a.place s × (string_outcome text s a ≡ taken a s)) ⊎ Fails (string_outcome text s a)
string_decided g text s a = go (matched text s a.place == length s) refl
  where
    e : Error
    e = stopped_before (quote s) (seen_at text (a.place + matched text s a.place)) a.place

    go : (b : Bool) → (matched text s a.place == length s) ≡ b → (StandsAt text a.place s × (string_outcome text s a ≡ taken a s)) ⊎ Fails (string_outcome text s a)
    go true h =
        let is : string_outcome text s a ≡ taken a s = if_true (matched text s a.place == length s) _ _ h in
        inl ((spans_string (subst (WhereOk (DerivesForm g text (form.Leaf (leaf.String s)) a)) is (string_derived g text s a))).stands, is)
    go false h = inr (record { consumed = nat_lt 0 (matched text s a.place); error = e; is = if_false (matched text s a.place == length s) _ _ h })

-- a node that fails, for some number of nodes entered
pub record NodeFails (G : Given) (q : ℕ) (a : Spot) : Type 0 where
  pub consumed : Bool
  pub error : Error
  pub count : ℕ
  pub answers : Answers G q a (failed consumed error) count

pub string_node_fails : (G : Given) (q : ℕ) (s : List ℕ) (a : Spot) → slice_get G.grammar.nodes q ≡ Some (form.Leaf (leaf.String s)) →
    (StandsAt G.text a.place s → ⊥) → NodeFails G q a
string_node_fails G q s a e bare = go (string_decided G.grammar G.text s a)
  where
    go : (StandsAt G.text a.place s × (string_outcome G.text s a ≡ taken a s)) ⊎ Fails (string_outcome G.text s a) → NodeFails G q a
    go (inl h) = absurd (bare h.0)
    go (inr h) = record { consumed = h.consumed; error = h.error; count = _; answers = entered e (answers.leaf (ap Some h.is)) }

module _ (G : Given) (q x y : ℕ) (s : List ℕ) (class : List ClassPart) (a : Spot) (e : slice_get G.grammar.nodes q ≡ Some (form.Seq (x ∷ y ∷ [])))
    (first : slice_get G.grammar.nodes x ≡ Some (form.Leaf (leaf.String s))) (second : slice_get G.grammar.nodes y ≡ Some (form.Leaf (leaf.NotFollowedBy class))) where
  string_at : (o : Outcome) → string_outcome G.text s a ≡ o → Answers G x a o 1
  string_at o is = entered first (answers.leaf (ap Some is))

  bare_at : (o : Outcome) → not_followed_outcome G.grammar G.text class (after a (length s)) ≡ o → Answers G y (after a (length s)) o 1
  bare_at o is = entered second (answers.leaf (ap Some is))

  -- the string doesn't stand there, or a character of the class follows it
  pub key_node_fails : (StandsAt G.text a.place s × (HasAt G.grammar G.text class (a.place + length s) → ⊥) → ⊥) → NodeFails G q a
  key_node_fails bare = go (string_decided G.grammar G.text s a)
    where
      followed : StandsAt G.text a.place s → string_outcome G.text s a ≡ taken a s → FailsEmpty (not_followed_outcome G.grammar G.text class (after a (length s))) → NodeFails G q a
      followed h is f = record {
        consumed = _;
        error = _;
        count = _;
        answers = entered e (seq (part (string_at _ is) (part_ok (part (bare_at _ f.is) part_last))));
      }

      alone : StandsAt G.text a.place s → StaysOk (after a (length s)) (not_followed_outcome G.grammar G.text class (after a (length s))) → NodeFails G q a
      alone h f =
          let derived = subst (WhereOk (DerivesForm G.grammar G.text (form.Leaf (leaf.NotFollowedBy class)) (after a (length s)))) f.is (not_followed_derived G.grammar G.text class (after a (length s))) in
          absurd (bare (h, (spans_nothing derived).bare))

      either : StandsAt G.text a.place s → string_outcome G.text s a ≡ taken a s →
          FailsEmpty (not_followed_outcome G.grammar G.text class (after a (length s))) ⊎ StaysOk (after a (length s)) (not_followed_outcome G.grammar G.text class (after a (length s))) → NodeFails G q a
      either h is (inl f) = followed h is f
      either h is (inr f) = alone h f

      go : (StandsAt G.text a.place s × (string_outcome G.text s a ≡ taken a s)) ⊎ Fails (string_outcome G.text s a) → NodeFails G q a
      go (inl h) = either h.0 h.1 (not_followed_decided G.grammar G.text class (after a (length s)))
      go (inr h) = record { consumed = _; error = _; count = _; answers = entered e (seq (part (string_at _ h.is) part_failed)) }

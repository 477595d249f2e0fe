-- Stretches of an expression that lie on the machine's lists: what is done with them on the lists is what is made of their outcomes.
use Rattle.std.proofs.Common.{◌≡◌, ℕ, List, [], ◌∷◌, ◌++◌, Bool, true, false, refl, sym, ap, subst, ◌∙◌, append_assoc, append-nil, length}
use Rattle.std.proofs.Math.Seq.{set-append_seam}
use Rattle.std.specs.Prelude.{Some, slice_get, ◌||◌}
use Rattle.std.specs.Str.{encode_utf8_all}
use Rattle.pg_tree.specs.Trees.{Tree}
use Rattle.pg_grammar_form.specs.Operators.{Operator}
use Rattle.pg_grammar_form.specs.declared.used.BuilderUse.{BuilderUse}
use Rattle.pg_grammar_value.specs.declared.trail.AppliedOperator.{AppliedOperator}
use Rattle.pg_grammar_value.specs.declared.trail.Fixity.{Fixity}
use Rattle.pg_grammar_value.specs.declared.trail.Fixity.TheVariants as fixity
use Rattle.pg_grammar_value.specs.declared.trail.TrailItem.{TrailItem}
use Rattle.pg_grammar_value.specs.declared.trail.TrailItem.TheVariants.{Ops}
use Rattle.pg_table.specs.Tables.{Table}
use Rattle.pg_table.specs.Trails as trails
use Rattle.pg_language.specs.Derives.{Spot, at, applied}
use Rattle.pg_language.specs.Errors.{Error, merge, no_messages_at}
use Rattle.pg_language.specs.Outcomes.{Outcome, ok}
use Rattle.pg_language.specs.RowReactions.{operators_of, items_of, joined_trail, noted_operator, then_stretch, as_applied}
use Rattle.pg_machine_turns.specs.Extends.{Extends}
use Rattle.pg_machine_turns.specs.Spots.{spot_at}
use Rattle.pg_message_tape.specs.Messages.{TapeMessage, error_of}
use Rattle.pg_message_tape.specs.TapeErrors.{Says, Holds, tape_error, kept_at}
use Rattle.pg_message_tape.specs.declared.message_tape.KeptError.{KeptError}
use Rattle.pg_message_tape.specs.declared.message_tape.TapeError.{TapeError}
use Rattle.pg_message_tape.proofs.Merged.{hold, nothing_says, just_says, alone, merge_says, after_says}
use Rattle.pg_machine_lists.specs.RunTrees.{RunTrees, built_after}
use Rattle.pg_machine_turns.specs.Shows.{thrown_from, Means}
use Rattle.pg_machine_turns.specs.ShowsLevels.{opened}
use Rattle.pg_machine_turns.specs.Tape.{OnFrame}
use Rattle.pg_machine_lists.specs.TapeLevels.{OnStretch, Said, noted_read, with_trail, with_forest, said_after, after_kept, applied_from}
use Rattle.pg_machine_turns.proofs.Hiding.{Under, built_means, relisted}
use Rattle.pg_machine_turns.proofs.Stretches.{joined_assoc}
use Rattle.pg_machine_turns.proofs.Shown.{extends_any, extends_both}

-- ---- trails

-- what a list has after its first items
get_seam : {A : Type 0} (t : List A) (x : A) (r : List A) → slice_get (t ++ x ∷ r) (length t) ≡ Some x
get_seam [] x r = refl
get_seam (y ∷ t) x r = get_seam t x r

pub joined_nil : (t u : List TrailItem) → opened (joined_trail t (joined_trail u [])) ≡ opened (joined_trail t u)
joined_nil t u =
    ap (λ (os : List AppliedOperator). Ops (operators_of t ++ os) ∷ (items_of t ++ (items_of u ++ []))) (append-nil (operators_of u))
    ∙ ap (λ (is : List TrailItem). Ops (operators_of t ++ operators_of u) ∷ (items_of t ++ is)) (append-nil (items_of u))

-- an operator is noted after those that were read
pub opened_noted : (t u : List TrailItem) (side : Fixity) (o : Operator) →
    noted_read (length t) (trails.applied side o) (t ++ opened u) ≡ t ++ opened (joined_trail u (noted_operator side o))
opened_noted t u side o =
    let there = get_seam t (Ops (operators_of u)) (items_of u) in
    let set = set-append_seam t (Ops (operators_of u)) (items_of u) (Ops (operators_of u ++ trails.applied side o ∷ [])) in
    let none = append-nil (items_of u) in
    cc

-- the items of a term come after all that was read
pub opened_items : (u r : List TrailItem) → opened u ++ r ≡ opened (joined_trail u (Ops [] ∷ r))
opened_items u r = ap (λ (os : List AppliedOperator). Ops os ∷ (items_of u ++ r)) (sym (append-nil (operators_of u)))

-- ---- errors

-- the error without messages at a place, after what was said
pub silent : {x y : List TapeMessage} {error : TapeError} {e : Error} (i : ℕ) → Says x error e y → Says x (tape_error i (length y)) (no_messages_at i) y
silent {y = y} i s = alone (hold s) (nothing_says y i)

-- ---- stretches

-- the stretch lies on the lists after the trees, the trail and the messages, and led from the first table to the second
pub data Lies (gs : List OnFrame) (v : List Tree) (t u : List TrailItem) (y : List TapeMessage) (U W : Table) : Outcome → OnStretch → Type 0 where
  lies : {c : Bool} {j : ℕ} {s : List Tree} {r q : List TrailItem} {e : Error} {g : RunTrees} {error : TapeError} {x : List TapeMessage} →
      opened r ≡ r → Means gs g (v ++ s) → q ≡ t ++ opened (joined_trail u r) → Says y error e x → Extends c U W →
      Lies gs v t u y U W (ok c (spot_at W j) s r e) (record { consumed = c; place = j; error = error; lists = record { v = g; t = q; x = x } })

or_true : (c : Bool) → (c || true) ≡ true
or_true false = refl
or_true true = refl

pub or_false : (c : Bool) → (c || false) ≡ c
or_false false = refl
or_false true = refl

module _ {gs : List OnFrame} {v : List Tree} {t u : List TrailItem} {y : List TapeMessage} {U W : Table} where
  -- one error more is said
  pub said_lies : {c : Bool} {b : Spot} {s : List Tree} {r : List TrailItem} {e : Error} {z : OnStretch} (f : Said) (d : Error) → error_of f.place f.messages ≡ d →
      Lies gs v t u y U W (ok c b s r e) z → Lies gs v t u y U W (ok c b s r (merge e d)) (said_after f z)
  said_lies {e = e} f d is (lies {error = error} {x = x} k m q o h) =
      lies k m q (merge_says (hold o) (subst (λ (d : Error). Says x (tape_error f.place (length x)) d (x ++ f.messages)) is (just_says x f.messages f.place))) h

  -- the same where it consumed
  truly : {c : Bool} {b : Spot} {s : List Tree} {r : List TrailItem} {e : Error} {z : OnStretch} → c ≡ true → Lies gs v t u y U W (ok true b s r e) z → Lies gs v t u y U W (ok c b s r e) z
  truly {b = b} {s = s} {r = r} {e = e} {z = z} is h = subst (λ (k : Bool). Lies gs v t u y U W (ok k b s r e) z) (sym is) h

  -- ---- an operand of a row

  -- without a prefix before it
  pub entry_none : {c : Bool} {b : Spot} {s : List Tree} {r : List TrailItem} {e d : Error} {z : OnStretch} {x : List TapeMessage} {kept : KeptError} → Holds y kept d x →
      Lies gs v t (joined_trail u []) x U W (ok c b s r e) z → Lies gs v t u y U W (then_stretch false [] d (ok c b s r e)) (after_kept false kept z)
  entry_none {c = c} {r = r} k (lies w m q o h) =
      lies refl m (q ∙ ap (λ (i : List TrailItem). t ++ opened i) (joined_assoc u [] r)) (after_says c k o) h

  -- after a prefix, which is applied to it
  pub entry_some : {c : Bool} {b : Spot} {s : List Tree} {r : List TrailItem} {e d : Error} {z : OnStretch} {x : List TapeMessage} {kept : KeptError} (used : BuilderUse) (o : Operator) → Under (thrown_from gs) (length v) →
      Holds y kept d x → Lies gs v t (joined_trail u (noted_operator fixity.Prefix o)) x U W (ok c b s r e) z →
      Lies gs v t u y U W (then_stretch true (noted_operator fixity.Prefix o) d (as_applied used o [] (ok c b s r e))) (after_kept true kept (applied_from used o.symbol (length v) z))
  entry_some {c = c} {s = s} {r = r} used o n k (lies w m q p h) =
      lies refl (built_means v used.shape (encode_utf8_all o.symbol) s n m)
      (q ∙ ap (λ (i : List TrailItem). t ++ opened i) (joined_assoc u (noted_operator fixity.Prefix o) r)) (after_says c k p) (extends_any h)

  -- without a postfix after it
  pub postfix_none : {c : Bool} {b : Spot} {s : List Tree} {r : List TrailItem} {e : Error} {z : OnStretch} (f : Said) (d : Error) → error_of f.place f.messages ≡ d →
      Lies gs v t u y U W (ok c b s r e) z → Lies gs v t u y U W (then_stretch c r e (ok false b s [] d)) (said_after f z)
  postfix_none {c = c} {b = b} {s = s} {r = r} {e = e} {z = z} f d is (lies w m q o h) =
      subst (λ (k : Bool). Lies gs v t u y U W (ok k b s (joined_trail r []) (merge e d)) (said_after f z)) (sym (or_false c))
      (said_lies f d is (lies refl m (q ∙ ap (λ (i : List TrailItem). t ++ i) (sym (joined_nil u r))) o h))

  -- before a postfix, which is applied to it
  pub postfix_some : {c : Bool} {b : Spot} {s : List Tree} {r : List TrailItem} {e : Error} {z : OnStretch} (used : BuilderUse) (o : Operator) (i : ℕ) → Under (thrown_from gs) (length v) →
      Lies gs v t u y U W (ok c b s r e) z →
      Lies gs v t u y U W (then_stretch c r e (ok true (at b i) (applied used o s) (noted_operator fixity.Postfix o) (no_messages_at i))) (record {
        consumed = true;
        place = i;
        error = tape_error i (length z.lists.x);
        lists = with_trail (with_forest z.lists (built_after used.shape (encode_utf8_all o.symbol) (length v) z.lists.v))
            (noted_read (length t) (trails.applied fixity.Postfix o) z.lists.t);
      })
  postfix_some {c = c} {s = s} {r = r} used o i n (lies w m is p h) =
      truly (or_true c) (lies refl (built_means v used.shape (encode_utf8_all o.symbol) s n m)
      (ap (noted_read (length t) (trails.applied fixity.Postfix o)) is ∙ opened_noted t (joined_trail u r) fixity.Postfix o
      ∙ ap (λ (k : List TrailItem). t ++ opened k) (joined_assoc u r (noted_operator fixity.Postfix o))) (silent i p) (extends_any h))

  -- ---- infix operators

  -- one is applied to the trees before and those of the stretch
  pub applied_lies : {c : Bool} {b : Spot} {s : List Tree} {r : List TrailItem} {e : Error} {z : OnStretch} (w : List Tree) (used : BuilderUse) (o : Operator) → Under (thrown_from gs) (length v) →
      Lies gs (v ++ w) t u y U W (ok c b s r e) z → Lies gs v t u y U W (as_applied used o w (ok c b s r e)) (applied_from used o.symbol (length v) z)
  applied_lies {s = s} w used o n (lies k m q p h) =
      lies k (built_means v used.shape (encode_utf8_all o.symbol) (w ++ s) n (relisted (append_assoc v w s) m)) q p h

  -- what is after one is a stretch with it
  pub read_lies : {c : Bool} {b : Spot} {s : List Tree} {r : List TrailItem} {e : Error} {z : OnStretch} {V : Table} (p : List TrailItem) (i : ℕ) → Extends true U V →
      Lies gs v t (joined_trail u p) y V W (ok c b s r e) z →
      Lies gs v t u y U W (then_stretch true p (no_messages_at i) (ok c b s r e)) (after_kept true (kept_at (length y) (tape_error i (length y))) z)
  read_lies {c = c} {r = r} p i k (lies w m q o h) =
      lies refl m (q ∙ ap (λ (is : List TrailItem). t ++ opened is) (joined_assoc u p r)) (after_says c (hold (nothing_says y i)) o) (extends_both true c k h)

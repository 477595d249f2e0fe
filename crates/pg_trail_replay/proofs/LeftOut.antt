-- Trees that are left out: as many as before are there, or at most texts are answered.
use Rattle.std.proofs.Common.{◌≡◌, ◌==◌, ◌&&◌, ℕ, Bool, true, false, List, [], ◌∷◌, ◌++◌, refl, sym, subst, eqb-true, arith, length, length-append}
use Rattle.std.specs.Prelude.{◌||◌}
use Rattle.pg_tree.specs.Trees.{Tree}
use Rattle.pg_grammar_value.specs.declared.trail.TrailItem.{TrailItem}
use Rattle.pg_trail_replay.specs.Tasks.{Looseness, tight, apart, only_text, dropped, is_text}
use Rattle.pg_trail_replay.proofs.Alike.{text_in, Alike}
use Rattle.pg_trail_replay.proofs.Leads.{AsMany}

pub no_tree_more : (v w : List Tree) → length v ≡ length (v ++ w) → w ≡ []
no_tree_more v [] e = refl
no_tree_more v (t ∷ w) e = let more = length-append v (t ∷ w) in absurd (omega arith)

pub no_item_more : (x rest : List TrailItem) → length (x ++ rest) ≡ length rest → x ≡ []
no_item_more [] rest e = refl
no_item_more (i ∷ x) rest e = let more = length-append (i ∷ x) rest in absurd (omega arith)

-- tests of this
pub both : (b c : Bool) → b && c ≡ true → (b ≡ true) × (c ≡ true)
both true c e = (refl, e)
both false c e = absurd cc

count_same : (trees count : ℕ) (b : Bool) → (trees == count) ≡ b → b || false ≡ true → trees ≡ count
count_same trees count true f e = eqb-true trees count f
count_same trees count false f e = absurd cc

pub as_many : (loose : Looseness) (trees count : ℕ) → (trees == count) || is_text loose ≡ true → AsMany loose trees count
as_many tight trees count e = count_same trees count (trees == count) refl e
as_many (apart label) trees count e = count_same trees count (trees == count) refl e
as_many only_text trees count e = tt
as_many dropped trees count e = tt

-- what has no text, and left as many trees as there were
pub left_out : (l : Looseness) (v x w : List Tree) → Alike l x w → AsMany l (length v) (length (v ++ x)) → text_in w ≡ [] → Alike l [] w
left_out tight v x w h many none = subst (λ y. Alike tight y w) (no_tree_more v x many) h
left_out (apart label) v x w h many none = subst (λ y. Alike (apart label) y w) (no_tree_more v x many) h
left_out only_text v x w h many none = record { is = sym none }
left_out dropped v x w h many none = record { is = tt }

-- where two stretches left as many trees as there were, each did
fewer : (v x y : List Tree) → length v ≡ length (v ++ x ++ y) → (length v ≡ length (v ++ x)) × (length (v ++ x) ≡ length (v ++ x ++ y))
fewer v x y e = let first = length-append v x in let second = length-append (v ++ x) y in (omega arith, omega arith)

pub as_many_each : (l : Looseness) (v x y : List Tree) → AsMany l (length v) (length (v ++ x ++ y)) → AsMany l (length v) (length (v ++ x)) × AsMany l (length (v ++ x)) (length (v ++ x ++ y))
as_many_each tight v x y e = fewer v x y e
as_many_each (apart label) v x y e = fewer v x y e
as_many_each only_text v x y e = (tt, tt)
as_many_each dropped v x y e = (tt, tt)

-- What is so of an outcome where it is ok, and how that passes on.
use Rattle.std.proofs.Common.{◌≡◌, ℕ, refl, if◌then◌else◌, List, ◌++◌, ◌∷◌, Bool, true, false}
use Rattle.pg_tree.specs.Trees.{Tree}
use Rattle.pg_tree.specs.declared.shape.Shape.{Shape}
use Rattle.pg_grammar_form.specs.declared.form.Around.{Around}
use Rattle.pg_grammar_form.specs.declared.side.Side.{Side}
use Rattle.pg_language.specs.Derives.{Spot, finished, made_by, left_by}
use Rattle.pg_grammar_value.specs.declared.trail.TrailItem.{TrailItem}
use Rattle.pg_language.specs.Errors.{Error}
use Rattle.pg_language.specs.Outcomes.{Outcome, ok, failed, empty_round}
use Rattle.pg_language.specs.Reactions.{then_rest, then_round, noted, after_failure, unless_consumed, surrounded, as_finished}

-- a fact of a spot, a forest and a trail
abbrev pub Fact : Type 1
Fact = Spot → List Tree → List TrailItem → Type 0

-- an ok outcome's spot, forest and trail have the fact
abbrev pub WhereOk : Fact → Outcome → Type 0
WhereOk D (ok c b v t e) = D b v t
WhereOk D (failed c e) = Unit {0}
WhereOk D empty_round = Unit {0}

-- of two outcomes, by a test
pub ok_if : (D : Fact) (test : Bool) (o q : Outcome) → (test ≡ true → WhereOk D o) → (test ≡ false → WhereOk D q) → WhereOk D (if test then o else q)
ok_if D true o q f g = f refl
ok_if D false o q f g = g refl

-- what follows from the fact
pub ok_map : (D E : Fact) (o : Outcome) → ((b : Spot) (v : List Tree) (t : List TrailItem) → D b v t → E b v t) → WhereOk D o → WhereOk E o
ok_map D E (ok c b v t e) f h = f b v t h
ok_map D E (failed c e) f h = tt
ok_map D E empty_round f h = tt

pub ok_rest : (D E : Fact) (c : Bool) (v : List Tree) (t : List TrailItem) (e : Error) (o : Outcome) →
    ((b : Spot) (w : List Tree) (u : List TrailItem) → D b w u → E b (v ++ w) (t ++ u)) → WhereOk D o → WhereOk E (then_rest c v t e o)
ok_rest D E c v t e (ok d b w u f) g h = g b w u h
ok_rest D E c v t e (failed d f) g h = tt
ok_rest D E c v t e empty_round g h = tt

pub ok_round : (D E : Fact) (v : List Tree) (t : List TrailItem) (o : Outcome) →
    ((b : Spot) (w : List Tree) (u : List TrailItem) → D b w u → E b (v ++ w) (t ++ u)) → WhereOk D o → WhereOk E (then_round v t o)
ok_round D E v t (ok d b w u f) g h = g b w u h
ok_round D E v t (failed d f) g h = tt
ok_round D E v t empty_round g h = tt

pub ok_noted : (D E : Fact) (x : TrailItem) (o : Outcome) →
    ((b : Spot) (v : List Tree) (t : List TrailItem) → D b v t → E b v (x ∷ t)) → WhereOk D o → WhereOk E (noted x o)
ok_noted D E x (ok c b v t e) f h = f b v t h
ok_noted D E x (failed c e) f h = tt
ok_noted D E x empty_round f h = tt

pub ok_failure : (D : Fact) (e : Error) (o : Outcome) → WhereOk D o → WhereOk D (after_failure e o)
ok_failure D e (ok c b v t f) h = h
ok_failure D e (failed c f) h = tt
ok_failure D e empty_round h = tt

pub ok_unless : (D : Fact) (b : Spot) (v : List Tree) (t : List TrailItem) (e : Error) (o : Outcome) → D b v t → WhereOk D o → WhereOk D (unless_consumed b v t e o)
ok_unless D b v t e (ok true d w u f) g h = h
ok_unless D b v t e (ok false d w u f) g h = g
ok_unless D b v t e (failed true f) g h = tt
ok_unless D b v t e (failed false f) g h = g
ok_unless D b v t e empty_round g h = tt

pub ok_surrounded : (D E : Fact) (k : Around) (text : List ℕ) (a : Spot) (o : Outcome) →
    ((b : Spot) (v : List Tree) (t : List TrailItem) → D b v t → E (left_by k a b) (made_by k text a.place b.place v) t) → WhereOk D o → WhereOk E (surrounded k text a o)
ok_surrounded D E k text a (ok c b v t e) f h = f b v t h
ok_surrounded D E k text a (failed c e) f h = tt
ok_surrounded D E k text a empty_round f h = tt

pub ok_finished : (D E : Fact) (side : Side) (shape : Shape) (x s : List Tree) (o : Outcome) →
    ((b : Spot) (z : List Tree) (t : List TrailItem) → D b z t → E b (finished side shape x s z) t) → WhereOk D o → WhereOk E (as_finished side shape x s o)
ok_finished D E side shape x s (ok c b z t e) f h = f b z t h
ok_finished D E side shape x s (failed c e) f h = tt
ok_finished D E side shape x s empty_round f h = tt

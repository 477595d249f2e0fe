use Rattle.std.proofs.Common.{rules, ◌&&◌, ◌∷◌, [], nat_le, sym, ◌∙◌, arith}
use Rattle.std.proofs.Math.Bool.{or-false}
use Rattle.std.specs.Char.{IsScalar}
use Rattle.pg_class.specs.Ranges.{IsClass}
use Rattle.pg_class.proofs.Unique.{same_class}
use Rattle.pg_sets_own.proofs.own.character.Goals as goal

pub returns : goal.returns
returns c =
    let x = c.args.c in
    let scalar : IsScalar x = search rules in
    let alone : IsClass ((x, x) ∷ []) = (record { ascends = omega arith; first = scalar; last = scalar }, tt, tt) in
    same_class c.in_ok-class.class ((x, x) ∷ []) c.ranges-ranges.ensures.class alone (λ y is. c.in_ok-class.ensures y is ∙ sym (or-false (nat_le x y && nat_le y x)))

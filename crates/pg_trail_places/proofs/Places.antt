-- Positions of places, and loops over pieces.
use Rattle.std.proofs.Common.{◌≡◌, ◌+◌, ◌<◌, ◌≤◌, ℕ, zero, suc, List, [], ◌∷◌, ◌++◌, length, get_or, take, drop, fold, refl, ap, sym, ◌∙◌, arith, append_assoc}
use Rattle.pg_text.specs.declared.position.Pos.{Pos}
use Rattle.pg_text.specs.Position.{advance, start, position_of}
use Rattle.pg_trail_places.specs.Positions.{positions_after, positions_of}

length-after : (at : Pos) (cs : List ℕ) → length (positions_after at cs) ≡ length cs
length-after at [] = refl
length-after at (c ∷ cs) = ap suc (length-after (advance at c) cs)

pub length-positions : (text : List ℕ) → length (positions_of text) ≡ length text + 1
length-positions text = let h = length-after start text in omega arith

position_read : (cs : List ℕ) (at d : Pos) (i : ℕ) → i ≤ length cs → get_or (at ∷ positions_after at cs) i d ≡ fold advance at (take i cs)
position_read [] at d zero h = refl
position_read [] at d (suc i) h = absurd (omega arith)
position_read (c ∷ cs) at d zero h = refl
position_read (c ∷ cs) at d (suc i) h = position_read cs (advance at c) d i (omega arith)

pub position_within : (text : List ℕ) (positions : List Pos) (d : Pos) (i : ℕ) → positions ≡ positions_of text → i ≤ length text → get_or positions i d ≡ position_of text i
position_within text positions d i e h = ap (λ (ps : List Pos). get_or ps i d) e ∙ position_read text start d i h

take_all : (cs : List ℕ) (i : ℕ) → length cs ≤ i → take i cs ≡ cs
take_all [] zero h = refl
take_all [] (suc i) h = refl
take_all (c ∷ cs) zero h = absurd (omega arith)
take_all (c ∷ cs) (suc i) h = ap (λ ds. c ∷ ds) (take_all cs i (omega arith))

pub position_past : (text : List ℕ) (positions : List Pos) (d : Pos) (i n : ℕ) → positions ≡ positions_of text → n ≡ length text → length text ≤ i → get_or positions n d ≡ position_of text i
position_past text positions d i n e m h =
    position_within text positions d n e (omega arith) ∙ ap (λ cs. fold advance start cs) (take_all text n (omega arith) ∙ sym (take_all text i h))

-- Numbers for the nodes of a grammar exist if each is made from the numbers of nodes with a smaller measure.
use Rattle.std.proofs.Common.{◌≡◌, ◌<◌, ◌+◌, ℕ, zero, suc, List, [], ◌∷◌, refl, sym, ap, ◌∙◌, length, Some, slice_get, arith, le_refl}
use Rattle.std.specs.Option.{option_map_or}
use Rattle.std.proofs.lemmas.Option.{slice_get_within}
use Rattle.pg_grammar_form.specs.Forms.{Node}
use Rattle.pg_predict_costs.specs.Steps.{number_at}

found : (nodes : List Node) (i : ℕ) → i < length nodes → (n : Node) × (slice_get nodes i ≡ Some n)
found [] i l = absurd (omega arith)
found (n ∷ ns) zero l = (n, refl)
found (n ∷ ns) (suc i) l = found ns i (omega arith)

-- the values of a function for these nodes, where the first has the number k
numbered : (ℕ → ℕ) → ℕ → List Node → List ℕ
numbered f k [] = []
numbered f k (n ∷ ns) = f k ∷ numbered f (suc k) ns

as_many : (f : ℕ → ℕ) (k : ℕ) (ns : List Node) → length (numbered f k ns) ≡ length ns
unfolding numbered
as_many f k [] = refl
as_many f k (n ∷ ns) = let rest = as_many f (suc k) ns in omega arith

number_is : (f : ℕ → ℕ) (k i : ℕ) (ns : List Node) → i < length ns → number_at (numbered f k ns) i ≡ f (k + i)
unfolding numbered
number_is f k i [] l = absurd (omega arith)
number_is f k zero (n ∷ ns) l = let here : k ≡ k + zero = omega arith in ap f here
number_is f k (suc i) (n ∷ ns) l = let next : suc k + i ≡ k + suc i = omega arith in number_is f (suc k) i ns (omega arith) ∙ ap f next

module _ (nodes : List Node) (measure : ℕ → ℕ) (make : (ℕ → ℕ) → Node → ℕ) where
  -- what is made of a node is made of the numbers of nodes for which the measure is less
  abbrev pub IsMadeOfLess : Type 0
  IsMadeOfLess = (p : ℕ) (n : Node) → slice_get nodes p ≡ Some n → (f h : ℕ → ℕ) → ((q : ℕ) → measure q < measure p → q < length nodes → f q ≡ h q) → make f n ≡ make h n

  -- these are the numbers
  pub record AreMade (numbers : List ℕ) : Type 0 where
    pub long : length numbers ≡ length nodes
    pub each : (p : ℕ) (n : Node) → slice_get nodes p ≡ Some n → number_at numbers p ≡ make (number_at numbers) n

  -- after this number of rounds
  made : ℕ → ℕ → ℕ
  made zero p = 0
  made (suc rounds) p = option_map_or (make (made rounds)) (slice_get nodes p) 0

  made_at : (rounds p : ℕ) (n : Node) → slice_get nodes p ≡ Some n → made (suc rounds) p ≡ make (made rounds) n
  unfolding made
  made_at rounds p n e = ap (λ found. option_map_or (make (made rounds)) found 0) e

  module _ (less : IsMadeOfLess) where
    -- more rounds than the measure change nothing
    settled : (s t p : ℕ) (n : Node) → slice_get nodes p ≡ Some n → measure p < s → measure p < t → made s p ≡ made t p
    settled zero t p n e l m = absurd (omega arith)
    settled (suc s) zero p n e l m = absurd (omega arith)
    settled (suc s) (suc t) p n e l m =
        made_at s p n e
        ∙ less p n e (made s) (made t) (λ q below inside. (let f = found nodes q inside in settled s t q f.0 f.1 (omega arith) (omega arith)))
        ∙ sym (made_at t p n e)

    final : ℕ → ℕ
    final p = made (suc (measure p)) p

    final_is : (p : ℕ) (n : Node) → slice_get nodes p ≡ Some n → final p ≡ make final n
    unfolding final
    final_is p n e = made_at (measure p) p n e ∙ less p n e (made (measure p)) final lower
      where
        lower : (q : ℕ) → measure q < measure p → q < length nodes → made (measure p) q ≡ final q
        lower q below inside = let f = found nodes q inside in settled (measure p) (suc (measure q)) q f.0 f.1 below (le_refl _)

    pub are_made : (numbers : List ℕ) × AreMade numbers
    are_made = (numbered final 0 nodes, record { long = as_many final 0 nodes; each = each })
      where
        same : (q : ℕ) → q < length nodes → number_at (numbered final 0 nodes) q ≡ final q
        same q inside = let here : 0 + q ≡ q = omega arith in number_is final 0 q nodes inside ∙ ap final here

        each : (p : ℕ) (n : Node) → slice_get nodes p ≡ Some n → number_at (numbered final 0 nodes) p ≡ make (number_at (numbered final 0 nodes)) n
        each p n e = same p (slice_get_within nodes p n e) ∙ final_is p n e ∙ less p n e final (number_at (numbered final 0 nodes)) (λ q below inside. sym (same q inside))

-- The topmost frame's kind stands last among the kinds, and the newest frame of a kind last on its list.
use Rattle.std.proofs.Common.{◌≡◌, ◌<◌, ◌-◌, ℕ, ◌+◌, List, [], ◌∷◌, ◌++◌, suc, length, take, get_or, refl, sym, ap, ◌∙◌, arith}
use Rattle.std.proofs.Math.Seq.{take-length, take-suc}
use Rattle.std.proofs.lemmas.Option.{get_or_from_slice_get, slice_get_within, slice_get-get_or}
use Rattle.std.specs.Prelude.{Some, None, slice_get, slice_set}
use Rattle.pg_machine_turns.specs.Tape.{OnFrame, on_rule}
use Rattle.pg_machine_turns.specs.ViewFrames.{last_first_on, last_first, ByKind, of_kind, newest, older, without_newest, in_order}
use Rattle.pg_machine_turns.specs.declared.frame_lists.FrameKind.{FrameKind}

last_behind : {A : Type 0} → (xs : List A) (x : A) → slice_get xs (length xs - 1) ≡ Some x → xs ≡ take (length xs - 1) xs ++ x ∷ []
last_behind xs x is =
    let within : length xs - 1 < length xs = slice_get_within xs (length xs - 1) x is in
    let all : suc (length xs - 1) ≡ length xs = omega arith in
    let last : get_or xs (length xs - 1) x ≡ x = get_or_from_slice_get xs (length xs - 1) x x is in
    sym (take-length xs) ∙ ap (λ k. take k xs) (sym all) ∙ take-suc xs (length xs - 1) x within ∙ ap (λ y. take (length xs - 1) xs ++ y ∷ []) last

pub newest_last : {A B : Type 0} → (seen : A → B) (xs : List A) (x : A) → last_first seen (xs ++ x ∷ []) ≡ seen x ∷ last_first seen xs
newest_last {A} {B} seen xs x = go xs []
  where
    go : (xs : List A) (older : List B) → last_first_on seen older (xs ++ x ∷ []) ≡ seen x ∷ last_first_on seen older xs
    go [] older = refl
    go (y ∷ xs) older = go xs (seen y ∷ older)

-- what stands last in a list of a kind is the newest of it
pub last_newest : {A : Type 0} → (seen : A → OnFrame) (xs : List A) (x : A) → slice_get xs (length xs - 1) ≡ Some x → newest (last_first seen xs) ≡ seen x
last_newest seen xs x is = ap (λ ys. newest (last_first seen ys)) (last_behind xs x is) ∙ ap newest (newest_last seen (take (length xs - 1) xs) x)

pub none_newest : {A : Type 0} → (seen : A → OnFrame) (xs : List A) → slice_get xs (length xs - 1) ≡ None → newest (last_first seen xs) ≡ on_rule
none_newest seen [] is = refl
none_newest seen (x ∷ xs) is =
    let within : suc (length xs) - 1 < suc (length xs) = omega arith in
    let some = slice_get-get_or (x ∷ xs) (suc (length xs) - 1) x within in
    cc

-- where what stands last is written anew, it is the newest
set_last : {A : Type 0} → (xs : List A) (x y : A) → slice_set (xs ++ x ∷ []) (length (xs ++ x ∷ []) - 1) y ≡ xs ++ y ∷ []
set_last {A} xs x y =
    let one_more = ended xs in
    let last : length (xs ++ x ∷ []) - 1 ≡ length xs = omega arith in
    ap (λ n. slice_set (xs ++ x ∷ []) n y) last ∙ at_end xs
  where
    ended : (xs : List A) → length (xs ++ x ∷ []) ≡ suc (length xs)
    ended [] = refl
    ended (z ∷ xs) = ap suc (ended xs)

    at_end : (xs : List A) → slice_set (xs ++ x ∷ []) (length xs) y ≡ xs ++ y ∷ []
    at_end [] = refl
    at_end (z ∷ xs) = ap (λ ys. z ∷ ys) (at_end xs)

pub renewed_last : {A : Type 0} → (seen : A → OnFrame) (xs : List A) (x y : A) → slice_get xs (length xs - 1) ≡ Some x →
    last_first seen (slice_set xs (length xs - 1) y) ≡ seen y ∷ older (last_first seen xs)
renewed_last seen xs x y is =
    let all = last_behind xs x is in
    let before = take (length xs - 1) xs in
    ap (λ zs. last_first seen (slice_set zs (length zs - 1) y)) all ∙ ap (last_first seen) (set_last before x y) ∙ newest_last seen before y
    ∙ ap (λ fs. seen y ∷ older fs) (sym (newest_last seen before x)) ∙ ap (λ zs. seen y ∷ older (last_first seen zs)) (sym all)

pub newest_renewed : {A : Type 0} → (seen : A → OnFrame) (xs : List A) (x y : A) → slice_get xs (length xs - 1) ≡ Some x →
    newest (last_first seen (slice_set xs (length xs - 1) y)) ≡ seen y
newest_renewed seen xs x y is = ap newest (renewed_last seen xs x y is)

pub older_renewed : {A : Type 0} → (seen : A → OnFrame) (xs : List A) (x y : A) → slice_get xs (length xs - 1) ≡ Some x →
    older (last_first seen (slice_set xs (length xs - 1) y)) ≡ older (last_first seen xs)
older_renewed seen xs x y is = ap older (renewed_last seen xs x y is)

-- the frame of the last kind is the topmost one
pub topmost : (all before : List FrameKind) (k : FrameKind) (l m : ByKind) (f : OnFrame) → all ≡ before ++ k ∷ [] → newest (of_kind k l) ≡ f → without_newest k l ≡ m
    → in_order (last_first (λ k. k) all) l ≡ f ∷ in_order (last_first (λ k. k) before) m
topmost all before k l m f is top rest =
    ap (λ ks. in_order (last_first (λ k. k) ks) l) is ∙ ap (λ ks. in_order ks l) (newest_last (λ k. k) before k)
    ∙ ap (λ x. x ∷ in_order (last_first (λ k. k) before) (without_newest k l)) top ∙ ap (λ n. f ∷ in_order (last_first (λ k. k) before) n) rest

-- the same of a list of frames that is seen so
pub taken : (all before : List FrameKind) (j k : FrameKind) (l m : ByKind) (f : OnFrame) (fs : List OnFrame) → all ≡ before ++ j ∷ [] → j ≡ k → in_order (last_first (λ k. k) all) l ≡ fs
    → newest (of_kind k l) ≡ f → without_newest k l ≡ m → fs ≡ f ∷ in_order (last_first (λ k. k) before) m
taken all before j k l m f fs is same seen top rest = sym seen ∙ topmost all before k l m f (is ∙ ap (λ k. before ++ k ∷ []) same) top rest

pub top_lies : (ks : List FrameKind) (k : FrameKind) (l : ByKind) → slice_get ks (length ks - 1) ≡ Some k → slice_get (in_order (last_first (λ k. k) ks) l) 0 ≡ Some (newest (of_kind k l))
top_lies ks k l is =
    ap (λ fs. slice_get fs 0) (topmost ks (take (length ks - 1) ks) k l (without_newest k l) (newest (of_kind k l)) (last_behind ks k is) refl refl)

-- there are as many frames as kinds
pub as_many : (ks : List FrameKind) (l : ByKind) → length (in_order (last_first (λ k. k) ks) l) ≡ length ks
as_many ks l = ordered (last_first (λ k. k) ks) l ∙ no_more ks
  where
    ordered : (ks : List FrameKind) (l : ByKind) → length (in_order ks l) ≡ length ks
    ordered [] l = refl
    ordered (k ∷ ks) l = ap suc (ordered ks (without_newest k l))

    turned : (ks older : List FrameKind) → length (last_first_on (λ k. k) older ks) ≡ length ks + length older
    turned [] older = omega arith
    turned (k ∷ ks) older = let r = turned ks (k ∷ older) in omega arith

    no_more : (ks : List FrameKind) → length (last_first (λ k. k) ks) ≡ length ks
    no_more ks = let r = turned ks [] in omega arith

-- the topmost frame before and after the newest one of its kind is written anew
pub renewed : (ks : List FrameKind) (k : FrameKind) (l m : ByKind) (f g : OnFrame) (fs : List OnFrame) → slice_get ks (length ks - 1) ≡ Some k →
    in_order (last_first (λ k. k) ks) l ≡ fs → newest (of_kind k l) ≡ f → newest (of_kind k m) ≡ g → without_newest k m ≡ without_newest k l →
    (fs ≡ f ∷ older fs) × (in_order (last_first (λ k. k) ks) m ≡ g ∷ older fs)
renewed ks k l m f g fs is seen top anew rest =
    let before = take (length ks - 1) ks in
    let all = last_behind ks k is in
    let old : fs ≡ f ∷ in_order (last_first (λ k. k) before) (without_newest k l) = sym seen ∙ topmost ks before k l (without_newest k l) f all top refl in
    let new = topmost ks before k m (without_newest k l) g all anew rest in
    let under : in_order (last_first (λ k. k) before) (without_newest k l) ≡ older fs = sym (ap older old) in
    (old ∙ ap (λ s. f ∷ s) under, new ∙ ap (λ s. g ∷ s) under)

-- the newest frame of the last kind is the topmost one
pub top_newest : (ks : List FrameKind) (k : FrameKind) (l : ByKind) (fs : List OnFrame) → slice_get ks (length ks - 1) ≡ Some k →
    in_order (last_first (λ k. k) ks) l ≡ fs → newest fs ≡ newest (of_kind k l)
top_newest ks k l fs is seen =
    ap newest (sym seen ∙ topmost ks (take (length ks - 1) ks) k l (without_newest k l) (newest (of_kind k l)) (last_behind ks k is) refl refl)

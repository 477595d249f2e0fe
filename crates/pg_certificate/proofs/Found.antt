-- What readers answer, carried from parts to wholes.
use Rattle.std.proofs.Common.{◌≡◌, ◌+◌, ◌<◌, ◌≤◌, ℕ, zero, suc, List, [], ◌∷◌, ◌++◌, map, take, get_or, length, Ok, Err, refl, ap, ap₂, sym, ◌∙◌, subst, arith}
use Rattle.std.proofs.lemmas.List.{map-append, take_all, take_more}
use Rattle.pg_certificate.specs.declared.certificate_fault.CertificateFault.{CertificateFault}
use Rattle.pg_certificate.specs.declared.certificate_fault.CertificateFault.TheVariants.{NotJson, NotACertificate, Memory}
use Rattle.pg_certificate.specs.Claims.{Each}
use Rattle.pg_certificate.specs.Readings.{Gives, GivesEach}

-- where the part says nothing of its kind, the whole says nothing
pub refused_in : {A B C D : Type 0} (Says : B → A → Type 0) (b : B) (Whole : D → C → Type 0) (d : D) (e : CertificateFault)
    → ((whole : C) → Whole d whole → (a : A) × Says b a) → Gives Says b (Err e) → Gives Whole d (Err e)
refused_in Says b Whole d NotACertificate part h = λ whole is. let a = part whole is in h a.0 a.1
refused_in Says b Whole d NotJson part h = elim h [ ]
refused_in Says b Whole d Memory part h = tt

each_and_last : {A B : Type 0} (Says : B → A → Type 0) (bs : List B) (found : List A) (b : B) (a : A)
    → GivesEach Says bs found → Gives Says b (Ok a) → GivesEach Says (bs ++ b ∷ []) (found ++ a ∷ [])
each_and_last Says [] [] b a each last = (last, tt)
each_and_last Says [] (x ∷ xs) b a each last = elim each [ ]
each_and_last Says (c ∷ cs) [] b a each last = elim each [ ]
each_and_last Says (c ∷ cs) (x ∷ xs) b a each last = (each.0, each_and_last Says cs xs b a each.1 last)

-- one more of a list
pub one_more : {V A B : Type 0} (view : V → B) (Says : B → A → Type 0) (vs : List V) (i : ℕ) (v : V) (found : List A) (a : A) → i < length vs → v ≡ get_or vs i v
    → GivesEach Says (map view (take i vs)) found → Gives Says (view v) (Ok a) → GivesEach Says (map view (take (i + 1) vs)) (found ++ a ∷ [])
one_more view Says vs i v found a within is each next =
    let grown : map view (take (i + 1) vs) ≡ map view (take i vs) ++ view v ∷ [] =
    ap (map view) (take_more vs i v within ∙ ap (λ x. take i vs ++ x ∷ []) (sym is)) ∙ map-append view (take i vs) (v ∷ []) in
    subst (λ bs. GivesEach Says bs (found ++ a ∷ [])) (sym grown) (each_and_last Says _ found _ a each next)

each_says : {A B : Type 0} (Says : B → A → Type 0) (bs : List B) (found : List A) → GivesEach Says bs found → Each Says bs found
each_says Says [] [] each = tt
each_says Says [] (x ∷ xs) each = elim each [ ]
each_says Says (c ∷ cs) [] each = elim each [ ]
each_says Says (c ∷ cs) (x ∷ xs) each = (each.0.0, each_says Says cs xs each.1)

each_only : {A B : Type 0} (Says : B → A → Type 0) (bs : List B) (found other : List A) → GivesEach Says bs found → Each Says bs other → other ≡ found
each_only Says [] [] [] each is = refl
each_only Says [] [] (y ∷ ys) each is = elim is [ ]
each_only Says [] (x ∷ xs) other each is = elim each [ ]
each_only Says (c ∷ cs) [] other each is = elim each [ ]
each_only Says (c ∷ cs) (x ∷ xs) [] each is = elim is [ ]
each_only Says (c ∷ cs) (x ∷ xs) (y ∷ ys) each is = ap₂ (λ b bs. b ∷ bs) (each.0.1 y is.0) (each_only Says cs xs ys each.1 is.1)

-- all of a list
pub all_found : {V A B : Type 0} (view : V → B) (Says : B → A → Type 0) (vs : List V) (n : ℕ) (found : List A) → length vs ≤ n
    → GivesEach Says (map view (take n vs)) found → Gives (Each Says) (map view vs) (Ok found)
all_found view Says vs n found whole each =
    let all = subst (λ us. GivesEach Says (map view us) found) (take_all n vs whole) each in
    (each_says Says _ found all, λ other is. each_only Says _ found other all is)

nothing_said : {V A B : Type 0} (view : V → B) (Says : B → A → Type 0) (vs : List V) (i : ℕ) (d : V) → i < length vs
    → ((a : A) → Says (view (get_or vs i d)) a → ⊥) → (other : List A) → Each Says (map view vs) other → ⊥
nothing_said view Says [] i d within none other is = absurd (omega arith)
nothing_said view Says (v ∷ vs) i d within none [] is = is
nothing_said view Says (v ∷ vs) zero d within none (x ∷ xs) is = none x is.0
nothing_said view Says (v ∷ vs) (suc i) d within none (x ∷ xs) is = nothing_said view Says vs i d (omega arith) none xs is.1

-- one of a list that says nothing of the kind
pub one_refused : {V A B : Type 0} (view : V → B) (Says : B → A → Type 0) (vs : List V) (i : ℕ) (v : V) (e : CertificateFault) → i < length vs → v ≡ get_or vs i v
    → Gives Says (view v) (Err e) → Gives (Each Says) (map view vs) (Err e)
one_refused view Says vs i v NotACertificate within is none =
    λ other same. nothing_said view Says vs i v within (λ a says. none a (subst (λ u. Says (view u) a) (sym is) says)) other same
one_refused view Says vs i v NotJson within is none = none
one_refused view Says vs i v Memory within is none = tt

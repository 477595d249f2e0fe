-- What a row makes of an operand, by what is read after it.
use Rattle.std.proofs.Common.{◌≡◌, ◌<◌, ℕ, zero, suc, Option, Some, None, List, [], ◌∷◌, refl, ap, ◌∙◌, sym, arith}
use Rattle.pg_expand.specs.Rows.{of_role, row_numbered}
use Rattle.pg_expand.specs.declared.rows.Row.{Row}
use Rattle.pg_grammar_form.specs.declared.decl.Role.{Role}
use Rattle.pg_grammar_form.specs.declared.decl.Role.TheVariants.{InfixLeft, InfixRight, InfixNone, Prefix, Postfix}
use Rattle.pg_language.specs.Answers.{Given}
use Rattle.pg_language.specs.OperatorReads.{Read, read_at}
use Rattle.pg_message_tape.specs.declared.message_tape.KeptError.{KeptError}
use Rattle.pg_machine_lists.specs.TapeLevels.{OnOperator, OnPreceding, on_nothing, on_right, on_left, on_non, OnSetting, OnStretch, Lists, begun, row_begun, OnFollowed, on_hands, on_runs, on_right_side, operator_read, lists_after, Said, said_after, unread_said, says_right, says_left, says_non, after_read, joined_from, first_on, right_on, left_on, row_on, from_entry, to_postfix, operand_of, on_row, level_on}

module _ (G : Given) (e : OnSetting) where
  abbrev read_in : ℕ → ℕ → Role → Option Read
  read_in row i role = read_at G.grammar G.text e.parts.item (of_role role (row_numbered e.operators row)) i

  -- the row is at hand under another name
  same_read : (row row' i j : ℕ) → row ≡ row' → j ≡ i → (role : Role) → read_in row i role ≡ read_in row' j role
  same_read row row' i j same here role = ap (λ n. read_in n i role) same ∙ ap (λ i. read_in row' i role) (sym here)

  pub begun_by : (row i : ℕ) (before : OnPreceding) (l : Lists) (got : Option Read) → got ≡ read_in row i Prefix →
      begun G e row i before l (row_numbered e.operators row) got ≡ row_begun G e row i before l
  begun_by row i before l got h = ap (λ (got : Option Read). begun G e row i before l (row_numbered e.operators row) got) h

  -- from an operand's start on, by the prefix that was read, if any
  pub entry_by : (prefix got : Option (List ℕ)) (entry : KeptError) (n : ℕ) (z w : OnStretch) → w ≡ from_entry G e got entry n z → prefix ≡ got →
      w ≡ from_entry G e prefix entry n z
  entry_by prefix got entry n z w last same = last ∙ ap (λ (prefix : Option (List ℕ)). from_entry G e prefix entry n z) (sym same)

  -- an operand of a row, by the postfix that is read
  pub operand_by : (row i n : ℕ) (prefix : Option (List ℕ)) (entry : KeptError) (z y w : OnStretch) (got : Option Read) →
      w ≡ to_postfix G e (row_numbered e.operators row) n y got → y ≡ from_entry G e prefix entry n z → y.place ≡ i → got ≡ read_in row i Postfix →
      w ≡ operand_of G e (row_numbered e.operators row) prefix entry n z
  operand_by row i n prefix entry z y w got last first here h =
      last ∙ ap (λ (got : Option Read). to_postfix G e (row_numbered e.operators row) n y got) (h ∙ ap (λ i. read_in row i Postfix) (sym here))
      ∙ ap (λ (y : OnStretch). to_postfix G e (row_numbered e.operators row) n y (read_in row y.place Postfix)) first

  -- a level of a row, by its operand
  pub level_by : (k row : ℕ) (prefix : Option (List ℕ)) (entry : KeptError) (n m : ℕ) (before : OnPreceding) (z y : OnStretch) (w : OnFollowed) →
      w ≡ row_on G e k (row_numbered e.operators (suc k)) n m before y → y ≡ operand_of G e (row_numbered e.operators row) prefix entry n z → row ≡ suc k →
      w ≡ level_on G e (on_row row prefix entry n m before) z
  level_by k row prefix entry n m before z y w last first same =
      last ∙ ap (λ (y : OnStretch). row_on G e k (row_numbered e.operators (suc k)) n m before y) first
      ∙ ap (λ i. row_on G e k (row_numbered e.operators (suc k)) n m before (operand_of G e (row_numbered e.operators i) prefix entry n z)) same
      ∙ ap (λ i. level_on G e (on_row i prefix entry n m before) z) (sym same)

  -- the same where the row is at hand under another look at the same grammar and setting
  pub level_on_look : (G' : Given) (e' : OnSetting) → G' ≡ G → e' ≡ e →
      (k row : ℕ) (prefix : Option (List ℕ)) (entry : KeptError) (n m : ℕ) (before : OnPreceding) (z y : OnStretch) (w : OnFollowed) →
      w ≡ row_on G' e' k (row_numbered e'.operators (suc k)) n m before y → y ≡ operand_of G e (row_numbered e.operators row) prefix entry n z → row ≡ suc k →
      w ≡ level_on G e (on_row row prefix entry n m before) z
  level_on_look G' e' same_given same_setting k row prefix entry n m before z y w last first same =
      level_by k row prefix entry n m before z y w
      (last ∙ ap (λ (e : OnSetting). row_on G' e k (row_numbered e.operators (suc k)) n m before y) same_setting
      ∙ ap (λ (G : Given). row_on G e k (row_numbered e.operators (suc k)) n m before y) same_given) first same

  -- the level of all that is right of an operator
  pub right_side_by : (q : OnOperator) (z y : OnStretch) → y ≡ after_read G e q (joined_from G e q z) → on_hands y ≡ level_on G e (on_right_side q) z
  right_side_by q z y last = ap {B = OnFollowed} (λ (y : OnStretch). on_hands y) last

  pub level_without : (row : ℕ) (prefix : Option (List ℕ)) (entry : KeptError) (n m : ℕ) (before : OnPreceding) (z : OnStretch) → row < 1 →
      on_hands z ≡ level_on G e (on_row row prefix entry n m before) z
  level_without zero prefix entry n m before z none = refl
  level_without (suc k) prefix entry n m before z none = absurd (omega arith)

  -- ---- a row has come to its end: from the last step back to the first

  pub ended_right : (r : Row) (q : OnOperator) (s : Said) (z y x w v : OnStretch) → v ≡ after_read G e q (joined_from G e q w) → w ≡ says_non G e r x →
      x ≡ says_left G e r y → y ≡ said_after s z → s ≡ unread_said G.text r.right z.place → (k n m : ℕ) → right_on G e k r n m q z None ≡ on_hands v
  ended_right r q s z y x w v last non left first said k n m =
      ap {B = OnFollowed} (λ (u : OnStretch). on_hands (after_read G e q (joined_from G e q u)))
      (ap (λ (s : Said). says_non G e r (says_left G e r (said_after s z))) (sym said) ∙ ap (λ (y : OnStretch). says_non G e r (says_left G e r y)) (sym first)
      ∙ ap (λ (x : OnStretch). says_non G e r x) (sym left) ∙ sym non)
      ∙ ap {B = OnFollowed} (λ (u : OnStretch). on_hands u) (sym last)

  pub ended_left : (r : Row) (q : OnOperator) (s : Said) (z y x w v : OnStretch) → v ≡ after_read G e q (joined_from G e q w) → w ≡ says_non G e r x →
      x ≡ says_right G e r y → y ≡ said_after s z → s ≡ unread_said G.text r.left z.place → (k m : ℕ) → left_on G e k r m q z None ≡ on_hands v
  ended_left r q s z y x w v last non right first said k m =
      ap {B = OnFollowed} (λ (u : OnStretch). on_hands (after_read G e q (joined_from G e q u)))
      (ap (λ (s : Said). says_non G e r (says_right G e r (said_after s z))) (sym said) ∙ ap (λ (y : OnStretch). says_non G e r (says_right G e r y)) (sym first)
      ∙ ap (λ (x : OnStretch). says_non G e r x) (sym right) ∙ sym non)
      ∙ ap {B = OnFollowed} (λ (u : OnStretch). on_hands u) (sym last)

  pub ended_non : (r : Row) (q : OnOperator) (z y x w v : OnStretch) → v ≡ after_read G e q (joined_from G e q w) → w ≡ says_non G e r x →
      x ≡ says_left G e r y → y ≡ says_right G e r z → (k n m : ℕ) → row_on G e k r n m (on_non q) z ≡ on_hands v
  ended_non r q z y x w v last non left right k n m =
      ap {B = OnFollowed} (λ (u : OnStretch). on_hands (after_read G e q (joined_from G e q u)))
      (ap (λ (y : OnStretch). says_non G e r (says_left G e r y)) (sym right) ∙ ap (λ (x : OnStretch). says_non G e r x) (sym left) ∙ sym non)
      ∙ ap {B = OnFollowed} (λ (u : OnStretch). on_hands u) (sym last)

  module _ (k row i n m : ℕ) (z : OnStretch) (same : row ≡ suc k) (here : z.place ≡ i) where
    abbrev row_here : Row
    row_here = row_numbered e.operators (suc k)

    abbrev reads_here : Role → Option Read
    reads_here role = read_in (suc k) z.place role

    pub first_right : (q : Read) → Some q ≡ read_in row i InfixRight →
        on_runs k q.end (on_right (operator_read q n m)) [] (lists_after G e q m z) ≡ row_on G e k row_here n m on_nothing z
    first_right q h = ap (λ (o : Option Read). first_on G e k row_here n m z o (reads_here InfixLeft) (reads_here InfixNone)) (h ∙ same_read row (suc k) i z.place same here InfixRight)

    pub first_left : (q : Read) → None ≡ read_in row i InfixRight → Some q ≡ read_in row i InfixLeft →
        on_runs k q.end (on_left (operator_read q n m)) [] (lists_after G e q m z) ≡ row_on G e k row_here n m on_nothing z
    first_left q none h =
        ap (λ (o : Option Read). first_on G e k row_here n m z None o (reads_here InfixNone)) (h ∙ same_read row (suc k) i z.place same here InfixLeft)
        ∙ ap (λ (o : Option Read). first_on G e k row_here n m z o (reads_here InfixLeft) (reads_here InfixNone)) (none ∙ same_read row (suc k) i z.place same here InfixRight)

    pub first_non : (q : Read) → None ≡ read_in row i InfixRight → None ≡ read_in row i InfixLeft → Some q ≡ read_in row i InfixNone →
        on_runs k q.end (on_non (operator_read q n m)) [] (lists_after G e q m z) ≡ row_on G e k row_here n m on_nothing z
    first_non q none no_left h =
        ap (λ (o : Option Read). first_on G e k row_here n m z None None o) (h ∙ same_read row (suc k) i z.place same here InfixNone)
        ∙ ap (λ (o : Option Read). first_on G e k row_here n m z None o (reads_here InfixNone)) (no_left ∙ same_read row (suc k) i z.place same here InfixLeft)
        ∙ ap (λ (o : Option Read). first_on G e k row_here n m z o (reads_here InfixLeft) (reads_here InfixNone)) (none ∙ same_read row (suc k) i z.place same here InfixRight)

    pub first_none : None ≡ read_in row i InfixRight → None ≡ read_in row i InfixLeft → None ≡ read_in row i InfixNone →
        first_on G e k (row_numbered e.operators row) n m z None None None ≡ row_on G e k row_here n m on_nothing z
    first_none none no_left h =
        ap (λ j. first_on G e k (row_numbered e.operators j) n m z None None None) same
        ∙ ap (λ (o : Option Read). first_on G e k row_here n m z None None o) (h ∙ same_read row (suc k) i z.place same here InfixNone)
        ∙ ap (λ (o : Option Read). first_on G e k row_here n m z None o (reads_here InfixNone)) (no_left ∙ same_read row (suc k) i z.place same here InfixLeft)
        ∙ ap (λ (o : Option Read). first_on G e k row_here n m z o (reads_here InfixLeft) (reads_here InfixNone)) (none ∙ same_read row (suc k) i z.place same here InfixRight)

    -- after an operator another one of its side is read
    pub right_again : (q : OnOperator) (p : Read) (w : OnFollowed) →
        w ≡ on_runs k p.end (on_right (operator_read p n m)) (on_right_side q ∷ []) (lists_after G e p m z) → Some p ≡ read_in row i InfixRight →
        w ≡ row_on G e k row_here n m (on_right q) z
    right_again q p w runs h = runs ∙ ap (λ (o : Option Read). right_on G e k row_here n m q z o) (h ∙ same_read row (suc k) i z.place same here InfixRight)

    pub left_again : (q : OnOperator) (p : Read) (w : OnFollowed) →
        w ≡ on_runs k p.end (on_left (operator_read p q.forest m)) [] (lists_after G e p m (joined_from G e q z)) → Some p ≡ read_in row i InfixLeft →
        w ≡ row_on G e k row_here n m (on_left q) z
    left_again q p w runs h = runs ∙ ap (λ (o : Option Read). left_on G e k row_here m q z o) (h ∙ same_read row (suc k) i z.place same here InfixLeft)

    pub right_by : (q : OnOperator) (got : Option Read) → got ≡ read_in row i InfixRight →
        right_on G e k (row_numbered e.operators row) n m q z got ≡ row_on G e k row_here n m (on_right q) z
    right_by q got h = ap (λ j. right_on G e k (row_numbered e.operators j) n m q z got) same ∙ ap (λ (o : Option Read). right_on G e k row_here n m q z o) (h ∙ same_read row (suc k) i z.place same here InfixRight)

    pub left_by : (q : OnOperator) (got : Option Read) → got ≡ read_in row i InfixLeft →
        left_on G e k (row_numbered e.operators row) m q z got ≡ row_on G e k row_here n m (on_left q) z
    left_by q got h = ap (λ j. left_on G e k (row_numbered e.operators j) m q z got) same ∙ ap (λ (o : Option Read). left_on G e k row_here m q z o) (h ∙ same_read row (suc k) i z.place same here InfixLeft)

  pub non_by : (k row n m : ℕ) (q : OnOperator) (z : OnStretch) → row ≡ suc k →
      row_on G e k (row_numbered e.operators row) n m (on_non q) z ≡ row_on G e k (row_numbered e.operators (suc k)) n m (on_non q) z
  non_by k row n m q z same = ap (λ j. row_on G e k (row_numbered e.operators j) n m (on_non q) z) same

-- Frames stay ready: their counts are bounded by the number of turns, and the builders that they name are offered.
use Rattle.std.proofs.Common.{◌≡◌, ℕ, suc, ◌<◌, ◌≤◌, List, [], ◌∷◌, Bool, true, false, arith, length, take, drop, refl, ap}
use Rattle.std.specs.Prelude.{Option, Some, None, slice_get, ◌||◌}
use Rattle.pg_pred.specs.Offer.{Offer}
use Rattle.pg_grammar_value.specs.Fits.{Fits, NodeFits, BuildersFit}
use Rattle.pg_grammar_value.specs.Grammar.{Grammar}
use Rattle.pg_grammar_form.specs.Contents.{all_builders}
use Rattle.pg_grammar_form.specs.declared.operators_item.OperatorsItem.{OperatorsItem}
use Rattle.pg_grammar_form.specs.declared.used.OperatorBuilders.{OperatorBuilders}
use Rattle.pg_machine_lists.specs.TapeLevels.{OnLevel, OnSetting, OnClimbed, on_ended, on_again, on_climb}
use Rattle.pg_grammar_form.specs.Forms.{Node}
use Rattle.pg_grammar_form.specs.declared.form.Form.TheVariants as form
use Rattle.pg_grammar_form.specs.declared.form.Around.{Around}
use Rattle.pg_grammar_form.specs.declared.form.Around.TheVariants as kind
use Rattle.pg_grammar_value.specs.declared.grammar.Rule as declared
use Rattle.pg_grammar_value.specs.declared.trail.TrailItem.{TrailItem}
use Rattle.pg_grammar_form.proofs.Each.{all-get}
use Rattle.pg_table.specs.Tables.{Table, first_operators}
use Rattle.pg_language.specs.Answers.{Given}
use Rattle.pg_language.specs.Outcomes as outcome
use Rattle.pg_language.specs.Outcomes.{Outcome}
use Rattle.pg_language.specs.declared.reading.Reading.{Reading}
use Rattle.pg_language.specs.declared.reading.Reading.TheVariants.{Library, Report}
use Rattle.pg_message_tape.specs.Messages.{TapeMessage}
use Rattle.pg_machine_turns.specs.Tape.{OnTried, no_tried, tried_failure, tried_empty_ok, OnChain, OnLinks, OnFrame, on_parts, on_choice, on_rounds, on_first, on_separator, on_operand, on_rule, on_around, on_expression, tape_climbed, tape_to_expression, tape_expression, Tape, tape_at, tape_with, tape_endless, tape_leaf, joined_consumed, joined_tape_error, joined_messages, tape_next_part, tape_to_parts, tape_settled, tape_next_alternative, tried_messages, tried_with_failure, tried_with_empty_ok, tried_kept, tape_empty_ok, tape_to_choice, tape_to_rounds, tape_to_first, tape_ended, tape_to_separator, link_forest, tape_linked, tape_to_operand, tape_hand, tape_rule, tape_told, tape_enter, tape_enter_at, tape_turn}
use Rattle.pg_machine_lists.specs.RunTrees.{tree_count, first_trees, hidden_after}
use Rattle.pg_machine_lists.specs.RunTrees.{RunTrees}
use Rattle.pg_machine_turns.specs.Ready.{AroundFits, IsReady, AreReady, IsTapeReady}
use Rattle.pg_message_tape.specs.TapeErrors.{kept_at, tape_error_after, messages_after}
use Rattle.pg_machine_turns.specs.declared.frame.Before as before
use Rattle.pg_machine_turns.specs.declared.frame.Reply.{Reply}
use Rattle.pg_machine_turns.specs.declared.frame.Reply.TheVariants.{Succeeded, Failed, EmptyRound}
use Rattle.pg_message_tape.specs.declared.message_tape.KeptError.{KeptError}
use Rattle.pg_message_tape.specs.declared.message_tape.TapeError.{TapeError}

module _ (offer : Offer) (g : Grammar) where
  -- ---- more room

  frame_more : (n m : ℕ) → n ≤ m → (f : OnFrame) → IsReady offer g n f → IsReady offer g m f
  frame_more n m l (on_parts rest b) r = tt
  frame_more n m l (on_choice k ps i q a b d) r = omega arith
  frame_more n m l (on_rounds p k c i slot a b d e) r = omega arith
  frame_more n m l (on_first ch slot a) r = tt
  frame_more n m l (on_separator links) r = omega arith
  frame_more n m l (on_operand links b a) r = omega arith
  frame_more n m l on_rule r = tt
  frame_more n m l (on_around around i a b) r = r
  frame_more n m l (on_expression e levels) r = r

  frames_more : (n m : ℕ) → n ≤ m → (fs : List OnFrame) → AreReady offer g n fs → AreReady offer g m fs
  frames_more n m l [] r = tt
  frames_more n m l (f ∷ fs) r = (frame_more n m l f r.0, frames_more n m l fs r.1)

  pub tape_more : (n m : ℕ) → n ≤ m → (x : Tape) → IsTapeReady offer g n x → IsTapeReady offer g m x
  tape_more n m l (tape_at p i fs v t x T) r = frames_more n m l fs r
  tape_more n m l (tape_with reply fs v t x T) r = frames_more n m l fs r
  tape_more n m l tape_endless r = tt

  module _ (n : ℕ) where
    -- ---- an answer is handed to a frame

    part_ready : (ps : List ℕ) (c : Bool) (j : ℕ) (error : TapeError) (fs : List OnFrame) (v : RunTrees) (t : List TrailItem) (x : List TapeMessage) (T : Table) → AreReady offer g n fs → IsTapeReady offer g n (tape_next_part ps c j error fs v t x T)
    part_ready [] c j error fs v t x T r = r
    part_ready (p ∷ ps) c j error fs v t x T r = (tt, r)

    parts_ready : (ps : List ℕ) (b : Option before.Before) (reply : Reply) (fs : List OnFrame) (v : RunTrees) (t : List TrailItem) (x : List TapeMessage) (T : Table) → AreReady offer g n fs → IsTapeReady offer g n (tape_to_parts ps b reply fs v t x T)
    parts_ready ps b (Succeeded c j error) fs v t x T r = part_ready ps (joined_consumed b c) j (joined_tape_error b c error x) fs v t (joined_messages b c error x) T r
    parts_ready ps b (Failed c error) fs v t x T r = r
    parts_ready ps b EmptyRound fs v t x T r = r

    settled_ready : (q : OnTried) (a b d : ℕ) (reply : Reply) (fs : List OnFrame) (v : RunTrees) (t : List TrailItem) (x : List TapeMessage) (T : Table) → AreReady offer g n fs → IsTapeReady offer g n (tape_settled q a b d reply fs v t x T)
    settled_ready no_tried a b d reply fs v t x T r = r
    settled_ready (tried_failure kept) a b d (Succeeded c j error) fs v t x T r = r
    settled_ready (tried_failure kept) a b d (Failed c error) fs v t x T r = r
    settled_ready (tried_failure kept) a b d EmptyRound fs v t x T r = r
    settled_ready (tried_empty_ok i w g u kept) a b d (Succeeded true j error) fs v t x T r = r
    settled_ready (tried_empty_ok i w g u kept) a b d (Succeeded false j error) fs v t x T r = r
    settled_ready (tried_empty_ok i w g u kept) a b d (Failed true error) fs v t x T r = r
    settled_ready (tried_empty_ok i w g u kept) a b d (Failed false error) fs v t x T r = r
    settled_ready (tried_empty_ok i w g u kept) a b d EmptyRound fs v t x T r = r

    alternative_ready : (k : ℕ) (ps : List ℕ) (i : ℕ) (q : OnTried) (fs : List OnFrame) (v : RunTrees) (t : List TrailItem) (x : List TapeMessage) (T : Table) → k < n → AreReady offer g n fs →
        IsTapeReady offer g n (tape_next_alternative k ps i q fs v t x T)
    alternative_ready k [] i q fs v t x T l r = settled_ready q (tree_count v) (length t) (length T.operators) (Failed false (record { place = i; from = length x })) fs v t x T r
    alternative_ready k (p ∷ ps) i q fs v t x T l r = (l, r)

    empty_ok_ready : (reading : Reading) (k : ℕ) (ps : List ℕ) (i : ℕ) (q : OnTried) (a b d j : ℕ) (error : TapeError) (fs : List OnFrame) (v : RunTrees) (t : List TrailItem) (x : List TapeMessage) (T : Table) → suc k < n → AreReady offer g n fs →
        IsTapeReady offer g n (tape_empty_ok reading k ps i q a b d j error fs v t x T)
    empty_ok_ready Library k ps i q a b d j error fs v t x T l r = settled_ready q a b d (Succeeded false j error) fs v t x T r
    empty_ok_ready Report k ps i q a b d j error fs v t x T l r =
        alternative_ready (suc k) ps i (tried_with_empty_ok q j (drop a v.kept) (hidden_after a v) (drop b t) (tried_kept q error x)) fs (first_trees a v) (take b t) (tried_messages q error x) (first_operators d T) l r

    choice_ready : (reading : Reading) (k : ℕ) (ps : List ℕ) (i : ℕ) (q : OnTried) (a b d : ℕ) (reply : Reply) (fs : List OnFrame) (v : RunTrees) (t : List TrailItem) (x : List TapeMessage) (T : Table) → suc k < n → AreReady offer g n fs →
        IsTapeReady offer g n (tape_to_choice reading k ps i q a b d reply fs v t x T)
    choice_ready reading k ps i q a b d (Succeeded true j error) fs v t x T l r = settled_ready q a b d (Succeeded true j error) fs v t x T r
    choice_ready reading k ps i q a b d (Succeeded false j error) fs v t x T l r = empty_ok_ready reading k ps i q a b d j error fs v t x T l r
    choice_ready reading k ps i q a b d (Failed true error) fs v t x T l r = settled_ready q a b d (Failed true error) fs v t x T r
    choice_ready reading k ps i q a b d (Failed false error) fs v t x T l r =
        alternative_ready (suc k) ps i (tried_with_failure q (tried_kept q error x)) fs (first_trees a v) (take b t) (tried_messages q error x) (first_operators d T) l r
    choice_ready reading k ps i q a b d EmptyRound fs v t x T l r = r

    rounds_ready : (p k : ℕ) (c : Bool) (i slot a b d e : ℕ) (reply : Reply) (fs : List OnFrame) (v : RunTrees) (t : List TrailItem) (x : List TapeMessage) (T : Table) → suc k < n → AreReady offer g n fs →
        IsTapeReady offer g n (tape_to_rounds p k c i slot a b d e reply fs v t x T)
    rounds_ready p k c i slot a b d e (Succeeded true j error) fs v t x T l r = (l, r)
    rounds_ready p k c i slot a b d e (Succeeded false j error) fs v t x T l r = r
    rounds_ready p k c i slot a b d e (Failed true error) fs v t x T l r = r
    rounds_ready p k c i slot a b d e (Failed false error) fs v t x T l r = r
    rounds_ready p k c i slot a b d e EmptyRound fs v t x T l r = r

    first_ready : (ch : OnChain) (slot a : ℕ) (reply : Reply) (fs : List OnFrame) (v : RunTrees) (t : List TrailItem) (x : List TapeMessage) (T : Table) → 0 < n → AreReady offer g n fs →
        IsTapeReady offer g n (tape_to_first ch slot a reply fs v t x T)
    first_ready ch slot a (Succeeded c j error) fs v t x T l r = (l, r)
    first_ready ch slot a (Failed c error) fs v t x T l r = r
    first_ready ch slot a EmptyRound fs v t x T l r = r

    ended_ready : (links : OnLinks) (c : Bool) (error : TapeError) (fs : List OnFrame) (v : RunTrees) (t : List TrailItem) (x : List TapeMessage) (T : Table) → AreReady offer g n fs → IsTapeReady offer g n (tape_ended links c error fs v t x T)
    ended_ready links true error fs v t x T r = r
    ended_ready links false error fs v t x T r = r

    separator_ready : (links : OnLinks) (reply : Reply) (fs : List OnFrame) (v : RunTrees) (t : List TrailItem) (x : List TapeMessage) (T : Table) → IsReady offer g n (on_separator links) → AreReady offer g n fs →
        IsTapeReady offer g n (tape_to_separator links reply fs v t x T)
    separator_ready links (Succeeded c j error) fs v t x T h r = (h, r)
    separator_ready links (Failed c error) fs v t x T h r = ended_ready links c error fs v t x T r
    separator_ready links EmptyRound fs v t x T h r = r

    linked_ready : (b : Bool) (links : OnLinks) (j a : ℕ) (kept : KeptError) (fs : List OnFrame) (v : RunTrees) (t : List TrailItem) (x : List TapeMessage) (T : Table) → suc links.count < n → AreReady offer g n fs →
        IsTapeReady offer g n (tape_linked b links j a kept fs v t x T)
    linked_ready true links j a kept fs v t x T l r = (l, r)
    linked_ready false links j a kept fs v t x T l r = tt

    operand_ready : (links : OnLinks) (b : before.Before) (a : ℕ) (reply : Reply) (fs : List OnFrame) (v : RunTrees) (t : List TrailItem) (x : List TapeMessage) (T : Table) → suc links.count < n → AreReady offer g n fs →
        IsTapeReady offer g n (tape_to_operand links b a reply fs v t x T)
    operand_ready links b a (Succeeded d j error) fs v t x T l r =
        linked_ready (b.consumed || d) links j a (kept_at (length (messages_after d b.kept error x)) (tape_error_after d b.kept error x)) fs (link_forest links.chain.side links.chain.used.shape links.left v) t (messages_after d b.kept error x) T l r
    operand_ready links b a (Failed d error) fs v t x T l r = ended_ready links (b.consumed || d) (tape_error_after d b.kept error x) fs v t (messages_after d b.kept error x) T r
    operand_ready links b a EmptyRound fs v t x T l r = r

    climbed_ready : (G : Given) (e : OnSetting) (z : OnClimbed) (fs : List OnFrame) (T : Table) → BuildersFit offer (all_builders e.parts.builders) × (g.operators ≡ Some e.parts.item) → AreReady offer g n fs →
        IsTapeReady offer g n (tape_climbed G e z fs T)
    climbed_ready G e (on_ended z) fs T h r = r
    climbed_ready G e (on_again d) fs T h r = (h, r)

    expression_ready : (G : Given) (e : OnSetting) (levels : List OnLevel) (reply : Reply) (fs : List OnFrame) (v : RunTrees) (t : List TrailItem) (x : List TapeMessage) (T : Table) →
        BuildersFit offer (all_builders e.parts.builders) × (g.operators ≡ Some e.parts.item) → AreReady offer g n fs → IsTapeReady offer g n (tape_to_expression G e levels reply fs v t x T)
    expression_ready G e levels (Succeeded c j error) fs v t x T h r =
        climbed_ready G e (on_climb G e levels (record { consumed = c; place = j; error = error; lists = record { v = v; t = t; x = x } })) fs T h r
    expression_ready G e levels (Failed c error) fs v t x T h r = r
    expression_ready G e levels EmptyRound fs v t x T h r = r

    -- ---- a node is entered

    rows_ready : (G : Given) (builders : OperatorBuilders) (p i : ℕ) (fs : List OnFrame) (v : RunTrees) (t : List TrailItem) (x : List TapeMessage) (T : Table) (item : Option OperatorsItem) →
        BuildersFit offer (all_builders builders) → g.operators ≡ item → AreReady offer g n fs → IsTapeReady offer g n (tape_expression G builders p i fs v t x T item)
    rows_ready G builders p i fs v t x T None h e r = tt
    rows_ready G builders p i fs v t x T (Some item) h e r = ((h, e), r)

    leaf_ready : (o : Outcome) (fs : List OnFrame) (v : RunTrees) (t : List TrailItem) (x : List TapeMessage) (T : Table) → AreReady offer g n fs → IsTapeReady offer g n (tape_leaf o fs v t x T)
    leaf_ready (outcome.ok c b w u e) fs v t x T r = r
    leaf_ready (outcome.failed c e) fs v t x T r = r
    leaf_ready outcome.empty_round fs v t x T r = r

    rule_ready : (named : Option declared.Rule) (i : ℕ) (fs : List OnFrame) (v : RunTrees) (t : List TrailItem) (x : List TapeMessage) (T : Table) → AreReady offer g n fs → IsTapeReady offer g n (tape_rule named i fs v t x T)
    rule_ready None i fs v t x T r = tt
    rule_ready (Some named) i fs v t x T r = (tt, r)

    told_ready : (o : Option Outcome) (fs : List OnFrame) (v : RunTrees) (t : List TrailItem) (x : List TapeMessage) (T : Table) → AreReady offer g n fs → IsTapeReady offer g n (tape_told o fs v t x T)
    told_ready None fs v t x T r = tt
    told_ready (Some o) fs v t x T r = leaf_ready o fs v t x T r

    around_ready : (around : Around) (p : ℕ) → NodeFits offer (form.Around around p) → AroundFits offer around
    around_ready (kind.Build used symbol) p h = h.1.0
    around_ready _ p h = tt

    form_ready : (G : Given) (f : Node) (i : ℕ) (fs : List OnFrame) (v : RunTrees) (t : List TrailItem) (x : List TapeMessage) (T : Table) → g ≡ G.grammar → 1 < n → NodeFits offer f → AreReady offer g n fs →
        IsTapeReady offer g n (tape_enter G f i fs v t x T)
    form_ready G (form.Leaf leaf) i fs v t x T same l h r = told_ready _ fs v t x T r
    form_ready G (form.Seq []) i fs v t x T same l h r = r
    form_ready G (form.Seq (p ∷ ps)) i fs v t x T same l h r = (tt, r)
    form_ready G (form.Choice ps) i fs v t x T same l h r = alternative_ready 1 ps i no_tried fs v t x T l r
    form_ready G (form.Many p) i fs v t x T same l h r = (omega arith, r)
    form_ready G (form.Chain side used p s) i fs v t x T same l h r = (tt, r)
    form_ready G (form.Rule k) i fs v t x T same l h r = rule_ready (slice_get G.grammar.rules k) i fs v t x T r
    form_ready G (form.Expression builders p) i fs v t x T same l h r = rows_ready G builders p i fs v t x T G.grammar.operators h.1 (ap (λ (g : Grammar). g.operators) same) r
    form_ready G (form.Around around p) i fs v t x T same l h r = (around_ready around p h, r)

    node_ready : (G : Given) (fits : Fits offer G.grammar) (p : ℕ) (f : Option Node) (i : ℕ) (fs : List OnFrame) (v : RunTrees) (t : List TrailItem) (x : List TapeMessage) (T : Table) → slice_get G.grammar.nodes p ≡ f → g ≡ G.grammar → 1 < n →
        AreReady offer g n fs → IsTapeReady offer g n (tape_enter_at G f i fs v t x T)
    node_ready G fits p None i fs v t x T e same l r = tt
    node_ready G fits p (Some f) i fs v t x T e same l r = form_ready G f i fs v t x T same l (all-get (NodeFits offer) G.grammar.nodes p f fits.nodes e) r

  hand_ready : (n : ℕ) (G : Given) (f : OnFrame) (reply : Reply) (fs : List OnFrame) (v : RunTrees) (t : List TrailItem) (x : List TapeMessage) (T : Table) → 0 < n → IsReady offer g n f → AreReady offer g (suc n) fs →
      IsTapeReady offer g (suc n) (tape_hand G f reply fs v t x T)
  hand_ready n G (on_parts rest b) reply fs v t x T z h r = parts_ready (suc n) rest b reply fs v t x T r
  hand_ready n G (on_choice k ps i q a b d) reply fs v t x T z h r = let l : suc k < suc n = omega arith in choice_ready (suc n) G.reading k ps i q a b d reply fs v t x T l r
  hand_ready n G (on_rounds p k c i slot a b d e) reply fs v t x T z h r = let l : suc k < suc n = omega arith in rounds_ready (suc n) p k c i slot a b d e reply fs v t x T l r
  hand_ready n G (on_first ch slot a) reply fs v t x T z h r = let l : 0 < suc n = omega arith in first_ready (suc n) ch slot a reply fs v t x T l r
  hand_ready n G (on_separator links) reply fs v t x T z h r = let l : links.count < suc n = omega arith in separator_ready (suc n) links reply fs v t x T l r
  hand_ready n G (on_operand links b a) reply fs v t x T z h r = let l : suc links.count < suc n = omega arith in operand_ready (suc n) links b a reply fs v t x T l r
  hand_ready n G on_rule reply fs v t x T z h r = r
  hand_ready n G (on_around around i a b) reply fs v t x T z h r = r
  hand_ready n G (on_expression e levels) reply fs v t x T z h r = expression_ready (suc n) G e levels reply fs v t x T h r

  pub turn_ready : (n : ℕ) (G : Given) (x : Tape) → g ≡ G.grammar → Fits offer G.grammar → 0 < n → IsTapeReady offer g n x → IsTapeReady offer g (suc n) (tape_turn G x)
  turn_ready n G (tape_at p i fs v t x T) same fits z r =
      let l : 1 < suc n = omega arith in
      let m : n ≤ suc n = omega arith in
      node_ready (suc n) G fits p (slice_get G.grammar.nodes p) i fs v t x T refl same l (frames_more n (suc n) m fs r)
  turn_ready n G (tape_with reply [] v t x T) same fits z r = tt
  turn_ready n G (tape_with reply (f ∷ fs) v t x T) same fits z r = let m : n ≤ suc n = omega arith in hand_ready n G f reply fs v t x T z r.0 (frames_more n (suc n) m fs r.1)
  turn_ready n G tape_endless same fits z r = tt

use Rattle.std.proofs.Common.{◌≡◌, ◌-◌, ◌^◌, refl, ◌∙◌}
use Rattle.std.proofs.lemmas.Result.{IfOk-weaker}
use Rattle.pg_pred.specs.Offer.{offer_of}
use Rattle.pg_machine_lists.specs.ViewLevels.{given_of}
use Rattle.pg_machine_turns.specs.Tape.{on_rule, tape_hand, tape_turn, tape_with}
use Rattle.pg_machine_turns.specs.ViewFrames.{by_kind, frame_of, in_order, last_first}
use Rattle.pg_machine_turns.specs.View.{tape_of}
use Rattle.pg_machine_turns.specs.declared.frame.Frame.TheVariants as frame
use Rattle.pg_machine_turns.specs.declared.frame_lists.FrameKind.TheVariants as kind
use Rattle.pg_machine_turns.proofs.KindLists.{taken}
use Rattle.pg_machine_turns.proofs.Stack.{top_ready, turn_by_top}
use Rattle.pg_machine_turns.proofs.machine.Machine.hand_off.Goals as goal

pub returns-in-Some-take_parts : goal.returns-in-Some-take_parts
returns-in-Some-take_parts g c =
    let m = c.args.self.now in
    let l = c.frames.inside in
    let is = taken l.kinds.items c.pop.new.self.items c.in-Some.kind kind.Parts (by_kind l.lists) (by_kind c.take_parts.new.self) (frame_of (frame.Parts c.in-Some-take_parts.parts)) c.args.self.now.frames
    c.in-Some.ensures.items c.in-Parts.is c.frames.view_is c.in-Some-take_parts.ensures.some c.take_parts.ensures.others in
    let turned = turn_by_top (given_of c.args.context.given) c.args.reply m.frames _ (frame_of (frame.Parts c.in-Some-take_parts.parts)) m.lists.forest m.lists.trail.items m.lists.messages m.table is in
    IfOk-weaker c.hand_to_parts.result _ _ (λ mode h. cc) c.hand_to_parts.ensures

pub returns-in-None : goal.returns-in-None
returns-in-None g c =
    let m = c.args.self.now in
    let l = c.frames.inside in
    let is = taken l.kinds.items c.pop.new.self.items c.in-Some.kind kind.Parts (by_kind l.lists) (by_kind c.take_parts.new.self) on_rule c.args.self.now.frames
    c.in-Some.ensures.items c.in-Parts.is c.frames.view_is c.in-None.ensures.none c.take_parts.ensures.others in
    turn_by_top (given_of c.args.context.given) c.args.reply m.frames _ on_rule m.lists.forest m.lists.trail.items m.lists.messages m.table is

pub returns-in-Some-take_choice : goal.returns-in-Some-take_choice
returns-in-Some-take_choice g c =
    let m = c.args.self.now in
    let l = c.frames.inside in
    let is = taken l.kinds.items c.pop.new.self.items c.in-Some.kind kind.Choice (by_kind l.lists) (by_kind c.take_choice.new.self) (frame_of (frame.Choice c.in-Some-take_choice.choice)) c.args.self.now.frames
    c.in-Some.ensures.items c.in-Choice.is c.frames.view_is c.in-Some-take_choice.ensures.some c.take_choice.ensures.others in
    let turned = turn_by_top (given_of c.args.context.given) c.args.reply m.frames _ (frame_of (frame.Choice c.in-Some-take_choice.choice)) m.lists.forest m.lists.trail.items m.lists.messages m.table is in
    IfOk-weaker c.hand_to_choice.result
    (λ mode. tape_of mode c.hand_to_choice.new.self ≡ tape_hand (given_of c.args.context.given) (frame_of (frame.Choice c.in-Some-take_choice.choice)) c.args.reply (in_order (last_first (λ k. k) c.pop.new.self.items) (by_kind c.take_choice.new.self)) m.lists.forest m.lists.trail.items m.lists.messages m.table)
    (λ mode. tape_of mode c.hand_to_choice.new.self ≡ tape_turn (given_of c.args.context.given) (tape_with c.args.reply m.frames m.lists.forest m.lists.trail.items m.lists.messages m.table))
    (λ mode h. h ∙ turned) c.hand_to_choice.ensures

pub returns-in-None-take_choice : goal.returns-in-None-take_choice
returns-in-None-take_choice g c =
    let m = c.args.self.now in
    let l = c.frames.inside in
    let is = taken l.kinds.items c.pop.new.self.items c.in-Some.kind kind.Choice (by_kind l.lists) (by_kind c.take_choice.new.self) on_rule c.args.self.now.frames
    c.in-Some.ensures.items c.in-Choice.is c.frames.view_is c.in-None-take_choice.ensures.none c.take_choice.ensures.others in
    turn_by_top (given_of c.args.context.given) c.args.reply m.frames _ on_rule m.lists.forest m.lists.trail.items m.lists.messages m.table is

pub hand_to_rounds-requires : goal.hand_to_rounds-requires
hand_to_rounds-requires g c =
    let l = c.frames.inside in
    let is = taken l.kinds.items c.pop.new.self.items c.in-Some.kind kind.Rounds (by_kind l.lists) (by_kind c.take_rounds.new.self) (frame_of (frame.Rounds c.in-Some-take_rounds.rounds)) c.args.self.now.frames
    c.in-Some.ensures.items c.in-Rounds.is c.frames.view_is c.in-Some-take_rounds.ensures.some c.take_rounds.ensures.others in
    let ready = top_ready (offer_of c.args.context.registry.now) c.args.context.given.grammar.now (2 ^ 64 - 1) c.args.self.now.frames _ (frame_of (frame.Rounds c.in-Some-take_rounds.rounds)) is c.requires in
    ready

pub returns-in-Some-take_rounds : goal.returns-in-Some-take_rounds
returns-in-Some-take_rounds g c =
    let m = c.args.self.now in
    let l = c.frames.inside in
    let is = taken l.kinds.items c.pop.new.self.items c.in-Some.kind kind.Rounds (by_kind l.lists) (by_kind c.take_rounds.new.self) (frame_of (frame.Rounds c.in-Some-take_rounds.rounds)) c.args.self.now.frames
    c.in-Some.ensures.items c.in-Rounds.is c.frames.view_is c.in-Some-take_rounds.ensures.some c.take_rounds.ensures.others in
    let turned = turn_by_top (given_of c.args.context.given) c.args.reply m.frames _ (frame_of (frame.Rounds c.in-Some-take_rounds.rounds)) m.lists.forest m.lists.trail.items m.lists.messages m.table is in
    IfOk-weaker c.hand_to_rounds.result _ _ (λ mode h. cc) c.hand_to_rounds.ensures

pub returns-in-None-take_rounds : goal.returns-in-None-take_rounds
returns-in-None-take_rounds g c =
    let m = c.args.self.now in
    let l = c.frames.inside in
    let is = taken l.kinds.items c.pop.new.self.items c.in-Some.kind kind.Rounds (by_kind l.lists) (by_kind c.take_rounds.new.self) on_rule c.args.self.now.frames
    c.in-Some.ensures.items c.in-Rounds.is c.frames.view_is c.in-None-take_rounds.ensures.none c.take_rounds.ensures.others in
    turn_by_top (given_of c.args.context.given) c.args.reply m.frames _ on_rule m.lists.forest m.lists.trail.items m.lists.messages m.table is

pub returns-in-Some-take_first : goal.returns-in-Some-take_first
returns-in-Some-take_first g c =
    let m = c.args.self.now in
    let l = c.frames.inside in
    let is = taken l.kinds.items c.pop.new.self.items c.in-Some.kind kind.First (by_kind l.lists) (by_kind c.take_first.new.self) (frame_of (frame.First c.in-Some-take_first.chain)) c.args.self.now.frames
    c.in-Some.ensures.items c.in-First.is c.frames.view_is c.in-Some-take_first.ensures.some c.take_first.ensures.others in
    let turned = turn_by_top (given_of c.args.context.given) c.args.reply m.frames _ (frame_of (frame.First c.in-Some-take_first.chain)) m.lists.forest m.lists.trail.items m.lists.messages m.table is in
    IfOk-weaker c.hand_to_first.result _ _ (λ mode h. cc) c.hand_to_first.ensures

pub returns-in-None-take_first : goal.returns-in-None-take_first
returns-in-None-take_first g c =
    let m = c.args.self.now in
    let l = c.frames.inside in
    let is = taken l.kinds.items c.pop.new.self.items c.in-Some.kind kind.First (by_kind l.lists) (by_kind c.take_first.new.self) on_rule c.args.self.now.frames
    c.in-Some.ensures.items c.in-First.is c.frames.view_is c.in-None-take_first.ensures.none c.take_first.ensures.others in
    turn_by_top (given_of c.args.context.given) c.args.reply m.frames _ on_rule m.lists.forest m.lists.trail.items m.lists.messages m.table is

pub returns-in-Some-take_separator : goal.returns-in-Some-take_separator
returns-in-Some-take_separator g c =
    let m = c.args.self.now in
    let l = c.frames.inside in
    let is = taken l.kinds.items c.pop.new.self.items c.in-Some.kind kind.Separator (by_kind l.lists) (by_kind c.take_separator.new.self) (frame_of (frame.Separator c.in-Some-take_separator.links)) c.args.self.now.frames
    c.in-Some.ensures.items c.in-Separator.is c.frames.view_is c.in-Some-take_separator.ensures.some c.take_separator.ensures.others in
    let turned = turn_by_top (given_of c.args.context.given) c.args.reply m.frames _ (frame_of (frame.Separator c.in-Some-take_separator.links)) m.lists.forest m.lists.trail.items m.lists.messages m.table is in
    IfOk-weaker c.hand_to_separator.result _ _ (λ mode h. cc) c.hand_to_separator.ensures

pub returns-in-None-take_separator : goal.returns-in-None-take_separator
returns-in-None-take_separator g c =
    let m = c.args.self.now in
    let l = c.frames.inside in
    let is = taken l.kinds.items c.pop.new.self.items c.in-Some.kind kind.Separator (by_kind l.lists) (by_kind c.take_separator.new.self) on_rule c.args.self.now.frames
    c.in-Some.ensures.items c.in-Separator.is c.frames.view_is c.in-None-take_separator.ensures.none c.take_separator.ensures.others in
    turn_by_top (given_of c.args.context.given) c.args.reply m.frames _ on_rule m.lists.forest m.lists.trail.items m.lists.messages m.table is

pub hand_to_operand-requires : goal.hand_to_operand-requires
hand_to_operand-requires g c =
    let l = c.frames.inside in
    let is = taken l.kinds.items c.pop.new.self.items c.in-Some.kind kind.Operand (by_kind l.lists) (by_kind c.take_operand.new.self) (frame_of (frame.Operand c.in-Some-take_operand.operand)) c.args.self.now.frames
    c.in-Some.ensures.items c.in-Operand.is c.frames.view_is c.in-Some-take_operand.ensures.some c.take_operand.ensures.others in
    let ready = top_ready (offer_of c.args.context.registry.now) c.args.context.given.grammar.now (2 ^ 64 - 1) c.args.self.now.frames _ (frame_of (frame.Operand c.in-Some-take_operand.operand)) is c.requires in
    ready

pub returns-in-Some-take_operand : goal.returns-in-Some-take_operand
returns-in-Some-take_operand g c =
    let m = c.args.self.now in
    let l = c.frames.inside in
    let is = taken l.kinds.items c.pop.new.self.items c.in-Some.kind kind.Operand (by_kind l.lists) (by_kind c.take_operand.new.self) (frame_of (frame.Operand c.in-Some-take_operand.operand)) c.args.self.now.frames
    c.in-Some.ensures.items c.in-Operand.is c.frames.view_is c.in-Some-take_operand.ensures.some c.take_operand.ensures.others in
    let turned = turn_by_top (given_of c.args.context.given) c.args.reply m.frames _ (frame_of (frame.Operand c.in-Some-take_operand.operand)) m.lists.forest m.lists.trail.items m.lists.messages m.table is in
    IfOk-weaker c.hand_to_operand.result _ _ (λ mode h. cc) c.hand_to_operand.ensures

pub returns-in-None-take_operand : goal.returns-in-None-take_operand
returns-in-None-take_operand g c =
    let m = c.args.self.now in
    let l = c.frames.inside in
    let is = taken l.kinds.items c.pop.new.self.items c.in-Some.kind kind.Operand (by_kind l.lists) (by_kind c.take_operand.new.self) on_rule c.args.self.now.frames
    c.in-Some.ensures.items c.in-Operand.is c.frames.view_is c.in-None-take_operand.ensures.none c.take_operand.ensures.others in
    turn_by_top (given_of c.args.context.given) c.args.reply m.frames _ on_rule m.lists.forest m.lists.trail.items m.lists.messages m.table is

pub returns-in-Rule : goal.returns-in-Rule
returns-in-Rule g c =
    let m = c.args.self.now in
    let l = c.frames.inside in
    let is = taken l.kinds.items c.pop.new.self.items c.in-Some.kind kind.Rule (by_kind l.lists) (by_kind l.lists) on_rule c.args.self.now.frames
    c.in-Some.ensures.items c.in-Rule.is c.frames.view_is refl refl in
    turn_by_top (given_of c.args.context.given) c.args.reply m.frames _ on_rule m.lists.forest m.lists.trail.items m.lists.messages m.table is

pub hand_to_around-requires : goal.hand_to_around-requires
hand_to_around-requires g c =
    let l = c.frames.inside in
    let is = taken l.kinds.items c.pop.new.self.items c.in-Some.kind kind.Around (by_kind l.lists) (by_kind c.take_around.new.self) (frame_of (frame.Around c.in-Some-take_around.around)) c.args.self.now.frames
    c.in-Some.ensures.items c.in-Around.is c.frames.view_is c.in-Some-take_around.ensures.some c.take_around.ensures.others in
    let ready = top_ready (offer_of c.args.context.registry.now) c.args.context.given.grammar.now (2 ^ 64 - 1) c.args.self.now.frames _ (frame_of (frame.Around c.in-Some-take_around.around)) is c.requires in
    ready

pub returns-in-Some-take_around : goal.returns-in-Some-take_around
returns-in-Some-take_around g c =
    let m = c.args.self.now in
    let l = c.frames.inside in
    let is = taken l.kinds.items c.pop.new.self.items c.in-Some.kind kind.Around (by_kind l.lists) (by_kind c.take_around.new.self) (frame_of (frame.Around c.in-Some-take_around.around)) c.args.self.now.frames
    c.in-Some.ensures.items c.in-Around.is c.frames.view_is c.in-Some-take_around.ensures.some c.take_around.ensures.others in
    let turned = turn_by_top (given_of c.args.context.given) c.args.reply m.frames _ (frame_of (frame.Around c.in-Some-take_around.around)) m.lists.forest m.lists.trail.items m.lists.messages m.table is in
    IfOk-weaker c.hand_to_around.result _ _ (λ mode h. cc) c.hand_to_around.ensures

pub returns-in-None-take_around : goal.returns-in-None-take_around
returns-in-None-take_around g c =
    let m = c.args.self.now in
    let l = c.frames.inside in
    let is = taken l.kinds.items c.pop.new.self.items c.in-Some.kind kind.Around (by_kind l.lists) (by_kind c.take_around.new.self) on_rule c.args.self.now.frames
    c.in-Some.ensures.items c.in-Around.is c.frames.view_is c.in-None-take_around.ensures.none c.take_around.ensures.others in
    turn_by_top (given_of c.args.context.given) c.args.reply m.frames _ on_rule m.lists.forest m.lists.trail.items m.lists.messages m.table is

pub hand_to_expression-requires-clause-item : goal.hand_to_expression-requires-clause-item
hand_to_expression-requires-clause-item g c =
    let l = c.frames.inside in
    let is = taken l.kinds.items c.pop.new.self.items c.in-Some.kind kind.Expression (by_kind l.lists) (by_kind c.take_expression.new.self) (frame_of (frame.Expression c.in-Some-take_expression.expression)) c.args.self.now.frames
    c.in-Some.ensures.items c.in-Expression.is c.frames.view_is c.in-Some-take_expression.ensures.some c.take_expression.ensures.others in
    let ready = top_ready (offer_of c.args.context.registry.now) c.args.context.given.grammar.now (2 ^ 64 - 1) c.args.self.now.frames _ (frame_of (frame.Expression c.in-Some-take_expression.expression)) is c.requires in
    ready.1

pub hand_to_expression-requires-clause-offered : goal.hand_to_expression-requires-clause-offered
hand_to_expression-requires-clause-offered g c =
    let l = c.frames.inside in
    let is = taken l.kinds.items c.pop.new.self.items c.in-Some.kind kind.Expression (by_kind l.lists) (by_kind c.take_expression.new.self) (frame_of (frame.Expression c.in-Some-take_expression.expression)) c.args.self.now.frames
    c.in-Some.ensures.items c.in-Expression.is c.frames.view_is c.in-Some-take_expression.ensures.some c.take_expression.ensures.others in
    let ready = top_ready (offer_of c.args.context.registry.now) c.args.context.given.grammar.now (2 ^ 64 - 1) c.args.self.now.frames _ (frame_of (frame.Expression c.in-Some-take_expression.expression)) is c.requires in
    ready.0

pub returns-in-Some-take_expression : goal.returns-in-Some-take_expression
returns-in-Some-take_expression g c =
    let m = c.args.self.now in
    let l = c.frames.inside in
    let is = taken l.kinds.items c.pop.new.self.items c.in-Some.kind kind.Expression (by_kind l.lists) (by_kind c.take_expression.new.self) (frame_of (frame.Expression c.in-Some-take_expression.expression)) c.args.self.now.frames
    c.in-Some.ensures.items c.in-Expression.is c.frames.view_is c.in-Some-take_expression.ensures.some c.take_expression.ensures.others in
    let turned = turn_by_top (given_of c.args.context.given) c.args.reply m.frames _ (frame_of (frame.Expression c.in-Some-take_expression.expression)) m.lists.forest m.lists.trail.items m.lists.messages m.table is in
    IfOk-weaker c.hand_to_expression.result
    (λ mode. tape_of mode c.hand_to_expression.new.self ≡ tape_hand (given_of c.args.context.given) (frame_of (frame.Expression c.in-Some-take_expression.expression)) c.args.reply (in_order (last_first (λ k. k) c.pop.new.self.items) (by_kind c.take_expression.new.self)) m.lists.forest m.lists.trail.items m.lists.messages m.table)
    (λ mode. tape_of mode c.hand_to_expression.new.self ≡ tape_turn (given_of c.args.context.given) (tape_with c.args.reply m.frames m.lists.forest m.lists.trail.items m.lists.messages m.table))
    (λ mode h. h ∙ turned) c.hand_to_expression.ensures

pub returns-in-None-take_expression : goal.returns-in-None-take_expression
returns-in-None-take_expression g c =
    let m = c.args.self.now in
    let l = c.frames.inside in
    let is = taken l.kinds.items c.pop.new.self.items c.in-Some.kind kind.Expression (by_kind l.lists) (by_kind c.take_expression.new.self) on_rule c.args.self.now.frames
    c.in-Some.ensures.items c.in-Expression.is c.frames.view_is c.in-None-take_expression.ensures.none c.take_expression.ensures.others in
    turn_by_top (given_of c.args.context.given) c.args.reply m.frames _ on_rule m.lists.forest m.lists.trail.items m.lists.messages m.table is

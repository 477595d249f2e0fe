-- Views of frames, and of their lists, one for each kind, as the definitions have them.
use Rattle.std.specs.Prelude.{List, [], ◌∷◌, reverse}
use Rattle.pg_machine_turns.specs.Tape.{OnTried, no_tried, tried_failure, tried_empty_ok, OnChain, OnLinks, OnFrame, on_parts, on_choice, on_rounds, on_first, on_separator, on_operand, on_rule, on_around, on_expression}
use Rattle.pg_machine_turns.specs.declared.frame.ChainFrame.{ChainFrame}
use Rattle.pg_machine_turns.specs.declared.frame.LinksFrame.{LinksFrame}
use Rattle.pg_machine_turns.specs.declared.frame.Tried.{Tried}
use Rattle.pg_machine_turns.specs.declared.frame.Tried.TheVariants as tried
use Rattle.pg_machine_turns.specs.declared.frame.Frame.{Frame}
use Rattle.pg_machine_turns.specs.declared.frame.Frame.TheVariants as frame
use Rattle.pg_machine_turns.specs.declared.frame.FrameRef.{FrameRef}
use Rattle.pg_machine_turns.specs.declared.frame.FrameRef.TheVariants as lying
use Rattle.pg_machine_turns.specs.declared.frame_lists.FrameKind.{FrameKind}
use Rattle.pg_machine_turns.specs.declared.frame_lists.FrameKind.TheVariants as kind
use Rattle.pg_machine_turns.specs.declared.frame_lists.FrameLists.{FrameLists}
use Rattle.pg_machine_lists.specs.ViewLevels.{setting_of}

abbrev pub tried_of : Tried → OnTried
tried_of tried.Nothing = no_tried
tried_of (tried.Failure kept) = tried_failure kept
tried_of (tried.EmptyOk ok) = tried_empty_ok ok.value.end ok.value.forest ok.value.hidden ok.value.trail.items ok.value.kept

abbrev pub chain_of : ChainFrame → OnChain
chain_of c = record { side = c.side; used = c.used.now; operand = c.operand; separator = c.separator }

-- the last index that waits is first
abbrev pub links_of : LinksFrame → OnLinks
links_of l = record {
  chain = chain_of l.chain;
  slot = l.chain.slot;
  count = l.count;
  consumed = l.consumed;
  kept = l.kept;
  waiting = reverse l.waiting.items;
  left = l.left;
  start = l.start;
  forest = l.marks.forest;
  trail = l.marks.trail;
  operators = l.marks.operators;
}

abbrev pub frame_of : Frame → OnFrame
frame_of (frame.Parts f) = on_parts f.rest.now f.before
frame_of (frame.Choice f) = on_choice f.which f.rest.now f.start (tried_of f.tried) f.marks.forest f.marks.trail f.marks.operators
frame_of (frame.Rounds f) = on_rounds f.part f.count f.consumed f.start f.slot f.marks.forest f.marks.trail f.marks.operators f.messages
frame_of (frame.First c) = on_first (chain_of c) c.slot c.forest
frame_of (frame.Separator l) = on_separator (links_of l.value)
frame_of (frame.Operand f) = on_operand (links_of f.links.value) f.before f.trees
frame_of frame.Rule = on_rule
frame_of (frame.Around f) = on_around f.around.now f.start f.forest f.operators
frame_of (frame.Expression f) = on_expression (setting_of f.value.setting) f.value.levels

-- the same frame, by reference
abbrev pub lying_of : FrameRef → OnFrame
lying_of (lying.Parts f) = frame_of (frame.Parts f.now)
lying_of (lying.Choice f) = frame_of (frame.Choice f.now)
lying_of (lying.Rounds f) = frame_of (frame.Rounds f.now)
lying_of (lying.First c) = frame_of (frame.First c.now)
lying_of (lying.Separator l) = frame_of (frame.Separator l.now)
lying_of (lying.Operand f) = frame_of (frame.Operand f.now)
lying_of lying.Rule = on_rule
lying_of (lying.Around f) = frame_of (frame.Around f.now)
lying_of (lying.Expression f) = frame_of (frame.Expression f.now)

-- ---- the lists of each kind

-- the frames of each kind, the newest first; a rule's have nothing to keep
pub record ByKind : Type 0 where
  pub parts : List OnFrame
  pub choices : List OnFrame
  pub rounds : List OnFrame
  pub firsts : List OnFrame
  pub separators : List OnFrame
  pub operands : List OnFrame
  pub arounds : List OnFrame
  pub expressions : List OnFrame

-- the values in reverse order, before these
abbrev pub last_first_on : {A B : Type 0} → (A → B) → List B → List A → List B
last_first_on seen older [] = older
last_first_on seen older (x ∷ xs) = last_first_on seen (seen x ∷ older) xs

abbrev pub last_first : {A B : Type 0} → (A → B) → List A → List B
last_first seen xs = last_first_on seen [] xs

abbrev pub by_kind : FrameLists → ByKind
by_kind l = record {
  parts = last_first (λ f. frame_of (frame.Parts f)) l.parts.items;
  choices = last_first (λ f. frame_of (frame.Choice f)) l.choices.items;
  rounds = last_first (λ f. frame_of (frame.Rounds f)) l.rounds.items;
  firsts = last_first (λ f. frame_of (frame.First f)) l.firsts.items;
  separators = last_first (λ f. frame_of (frame.Separator f)) l.separators.items;
  operands = last_first (λ f. frame_of (frame.Operand f)) l.operands.items;
  arounds = last_first (λ f. frame_of (frame.Around f)) l.arounds.items;
  expressions = last_first (λ f. frame_of (frame.Expression f)) l.expressions.items;
}

-- the frames of one kind
abbrev pub of_kind : FrameKind → ByKind → List OnFrame
of_kind kind.Parts l = l.parts
of_kind kind.Choice l = l.choices
of_kind kind.Rounds l = l.rounds
of_kind kind.First l = l.firsts
of_kind kind.Separator l = l.separators
of_kind kind.Operand l = l.operands
of_kind kind.Rule l = []
of_kind kind.Around l = l.arounds
of_kind kind.Expression l = l.expressions

-- the newest frame; a rule's if there is none
abbrev pub newest : List OnFrame → OnFrame
newest [] = on_rule
newest (f ∷ fs) = f

-- the frames before the newest
abbrev pub older : List OnFrame → List OnFrame
older [] = []
older (f ∷ fs) = fs

-- the lists without the newest frame of a kind
abbrev pub without_newest : FrameKind → ByKind → ByKind
without_newest kind.Parts l = record l { parts = older l.parts }
without_newest kind.Choice l = record l { choices = older l.choices }
without_newest kind.Rounds l = record l { rounds = older l.rounds }
without_newest kind.First l = record l { firsts = older l.firsts }
without_newest kind.Separator l = record l { separators = older l.separators }
without_newest kind.Operand l = record l { operands = older l.operands }
without_newest kind.Rule l = l
without_newest kind.Around l = record l { arounds = older l.arounds }
without_newest kind.Expression l = record l { expressions = older l.expressions }

-- for each kind, from the newest frame's on, the newest frame that is left of it
abbrev pub in_order : List FrameKind → ByKind → List OnFrame
in_order [] l = []
in_order (k ∷ ks) l = newest (of_kind k l) ∷ in_order ks (without_newest k l)

-- Reading a rule symbol by symbol. A state is what stands open to the left; a step takes one symbol or stops. Only proofs and
-- private contracts speak of this machine: what a text means is said by the grammar.
use Rattle.std.specs.Prelude.{List, [], ◌∷◌}
use Rattle.std.proofs.Math.Option.{Option, none, some}
use Rattle.grammar.specs.Symbol.{Symbol}
use Rattle.grammar.specs.Tree.{Pattern, empty, claim, alternative, sequence, star}
use Rattle.grammar.specs.Views.{AtBase, base_Underscore, base_LeftRound, base_LeftSquare, base_other, at_base, AfterPiece, piece_Star, piece_Dot, piece_Bar, piece_RightRound, piece_other, after_piece}
use Rattle.grammar.specs.ClaimMachine.{ClaimState, claim_start, ClaimStep, on, closed, stuck, claim_step}

-- what was joined so far at one depth of round brackets: the rule before the last `|`, and the chain before the last `.`
pub data Frame : Type 0 where
  frame : Option Pattern → Option Pattern → Frame

abbrev pub with_chain : Option Pattern → Pattern → Pattern
with_chain none x = x
with_chain (some c) x = sequence c x

abbrev pub with_rule : Option Pattern → Pattern → Pattern
with_rule none x = x
with_rule (some r) x = alternative r x

pub data State : Type 0 where
  want : Frame → List Frame → State
  have : Frame → List Frame → Pattern → State
  inside : Frame → List Frame → ClaimState → State

pub data Next : Type 0 where
  stop : Next
  go : State → Next

abbrev pub on_want : Frame → List Frame → {t : Symbol} → AtBase t → Next
on_want f K base_Underscore = go (have f K empty)
on_want f K base_LeftRound = go (want (frame none none) (f ∷ K))
on_want f K base_LeftSquare = go (inside f K claim_start)
on_want f K (base_other t) = stop

abbrev pub on_have : Frame → List Frame → Pattern → {t : Symbol} → AfterPiece t → Next
on_have f K x piece_Star = go (have f K (star x))
on_have (frame r c) K x piece_Dot = go (want (frame r (some (with_chain c x))) K)
on_have (frame r c) K x piece_Bar = go (want (frame (some (with_rule r (with_chain c x))) none) K)
on_have (frame r c) [] x piece_RightRound = stop
on_have (frame r c) (g ∷ K) x piece_RightRound = go (have g K (with_rule r (with_chain c x)))
on_have f K x (piece_other t) = stop

abbrev pub on_inside : Frame → List Frame → ClaimStep → Next
on_inside f K (on s) = go (inside f K s)
on_inside f K (closed c) = go (have f K (claim c))
on_inside f K stuck = stop

abbrev pub step : State → Symbol → Next
step (want f K) t = on_want f K (at_base t)
step (have f K x) t = on_have f K x (after_piece t)
step (inside f K s) t = on_inside f K (claim_step s t)

-- a whole rule, or the symbols from the first bad one on
pub data Out : Type 0 where
  good : Pattern → Out
  bad : List Symbol → Out

abbrev pub at_end : State → Out
at_end (want f K) = bad []
at_end (have (frame r c) [] x) = good (with_rule r (with_chain c x))
at_end (have (frame r c) (g ∷ K) x) = bad []
at_end (inside f K s) = bad []

abbrev pub follow : Next → Symbol → List Symbol → (State → Out) → Out
follow stop t ts k = bad (t ∷ ts)
follow (go s) t ts k = k s

abbrev pub run : State → List Symbol → Out
run s [] = at_end s
run s (t ∷ ts) = follow (step s t) t ts (λ s'. run s' ts)

abbrev pub start : State
start = want (frame none none) []

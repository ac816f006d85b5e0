-- Complete: the machine reads each rule to its tree.
use Rattle.std.proofs.Common.{◌≡◌, List, [], ◌∷◌, ◌++◌, sym, refl, ap, ◌∙◌, append_assoc, append-nil}
use mathlib.Core.Option.{Option, none, some}
use Rattle.grammar.specs.Symbol.{Symbol, RightSquare, RightRound, Bar, Dot, Star}
use Rattle.grammar.specs.Tree.{Pattern, claim}
use Rattle.grammar.specs.Views.{AfterPiece, piece_Star, piece_Dot, piece_Bar, piece_RightRound, piece_other, after_piece}
use Rattle.grammar.specs.ClaimMachine.{ClaimState, claim_start, ClaimStep, on, closed, stuck, claim_step, claim_follow, claim_run, ClaimOut, claim_good, claim_bad}
use Rattle.grammar.specs.Patterns.{Rule, one_chain, joined_chains, Chain, one_piece, joined_pieces, Piece, bare, starred, Base, blank, round, square}
use Rattle.grammar.specs.Machine.{Frame, frame, with_chain, with_rule, State, want, have, inside, Next, on_have, on_inside, Out, good, bad, follow, run, start}
use Rattle.grammar.proofs.ClaimComplete.{claim_runs}

-- no `*` comes next; neither `*` nor `.` comes next
abbrev pub NoStar : {t : Symbol} → AfterPiece t → Type 0
NoStar piece_Star = ⊥
NoStar piece_Dot = Unit {0}
NoStar piece_Bar = Unit {0}
NoStar piece_RightRound = Unit {0}
NoStar (piece_other t) = Unit {0}

abbrev pub NoDot : {t : Symbol} → AfterPiece t → Type 0
NoDot piece_Star = ⊥
NoDot piece_Dot = ⊥
NoDot piece_Bar = Unit {0}
NoDot piece_RightRound = Unit {0}
NoDot (piece_other t) = Unit {0}

abbrev pub PieceOver : List Symbol → Type 0
PieceOver [] = Unit {0}
PieceOver (t ∷ ts) = NoStar (after_piece t)

abbrev pub ChainOver : List Symbol → Type 0
ChainOver [] = Unit {0}
ChainOver (t ∷ ts) = NoDot (after_piece t)

weaker : {t : Symbol} → (v : AfterPiece t) → NoDot v → NoStar v
weaker piece_Star h = h
weaker piece_Dot h = tt
weaker piece_Bar h = tt
weaker piece_RightRound h = tt
weaker (piece_other t) h = tt

pub piece_over : (ts : List Symbol) → ChainOver ts → PieceOver ts
piece_over [] h = tt
piece_over (t ∷ ts) h = weaker (after_piece t) h

next_chain : (r c : Option Pattern) (K : List Frame) (x : Pattern) {t : Symbol} → (v : AfterPiece t) → NoStar v → on_have (frame r c) K x v ≡ on_have (frame r none) K (with_chain c x) v
next_chain r c K x piece_Star h = absurd h
next_chain r c K x piece_Dot h = refl
next_chain r c K x piece_Bar h = refl
next_chain r c [] x piece_RightRound h = refl
next_chain r c (g ∷ K) x piece_RightRound h = refl
next_chain r c K x (piece_other t) h = refl

next_rule : (r : Option Pattern) (K : List Frame) (x : Pattern) {t : Symbol} → (v : AfterPiece t) → NoDot v → on_have (frame r none) K x v ≡ on_have (frame none none) K (with_rule r x) v
next_rule r K x piece_Star h = absurd h
next_rule r K x piece_Dot h = absurd h
next_rule r K x piece_Bar h = refl
next_rule r [] x piece_RightRound h = refl
next_rule r (g ∷ K) x piece_RightRound h = refl
next_rule r K x (piece_other t) h = refl

-- once a piece is over, the chain before it takes it in; once a chain is over, the rule before it does
pub chain_takes : (r c : Option Pattern) (K : List Frame) (x : Pattern) (ts : List Symbol) → PieceOver ts → run (have (frame r c) K x) ts ≡ run (have (frame r none) K (with_chain c x)) ts
chain_takes r c [] x [] h = refl
chain_takes r c (g ∷ K) x [] h = refl
chain_takes r c K x (t ∷ ts) h = ap (λ (n : Next). follow n t ts (λ s. run s ts)) (next_chain r c K x (after_piece t) h)

pub rule_takes : (r : Option Pattern) (K : List Frame) (x : Pattern) (ts : List Symbol) → ChainOver ts → run (have (frame r none) K x) ts ≡ run (have (frame none none) K (with_rule r x)) ts
rule_takes r [] x [] h = refl
rule_takes r (g ∷ K) x [] h = refl
rule_takes r K x (t ∷ ts) h = ap (λ (n : Next). follow n t ts (λ s. run s ts)) (next_rule r K x (after_piece t) h)

-- a claim inside its brackets is read by the claims' machine
abbrev pub then_have : Frame → List Frame → ClaimOut → Out
then_have f K (claim_good c ts) = run (have f K (claim c)) ts
then_have f K (claim_bad ts) = bad ts

pub inside_runs : (f : Frame) (K : List Frame) (s : ClaimState) (ts : List Symbol) → run (inside f K s) ts ≡ then_have f K (claim_run s ts)
inside_runs f K s [] = refl
inside_runs f K s (t ∷ ts) = by_next (claim_step s t) (λ s'. inside_runs f K s' ts)
  where
    by_next : (n : ClaimStep) → ((s' : ClaimState) → run (inside f K s') ts ≡ then_have f K (claim_run s' ts)) → follow (on_inside f K n) t ts (λ s'. run s' ts) ≡ then_have f K (claim_follow n t ts (λ s'. claim_run s' ts))
    by_next (on s') ih = ih s'
    by_next (closed c) ih = refl
    by_next stuck ih = refl

regroup : (s : State) (us vs ts : List Symbol) → run s ((us ++ vs) ++ ts) ≡ run s (us ++ (vs ++ ts))
regroup s us vs ts = ap (run s) (append_assoc us vs ts)

mutual
  pub rule_runs : {us : List Symbol} {x : Pattern} → Rule us x → (K : List Frame) (ts : List Symbol) → ChainOver ts → run (want (frame none none) K) (us ++ ts) ≡ run (have (frame none none) K x) ts
  rule_runs (one_chain d) K ts h = chain_runs d none K ts (piece_over ts h)
  rule_runs (joined_chains {us = us} {vs = vs} {x = x} {y = y} d e) K ts h =
      regroup (want (frame none none) K) us (Bar ∷ vs) ts
      ∙ rule_runs d K (Bar ∷ (vs ++ ts)) tt
      ∙ chain_runs e (some x) K ts (piece_over ts h)
      ∙ rule_takes (some x) K y ts h

  pub chain_runs : {us : List Symbol} {x : Pattern} → Chain us x → (r : Option Pattern) (K : List Frame) (ts : List Symbol) → PieceOver ts → run (want (frame r none) K) (us ++ ts) ≡ run (have (frame r none) K x) ts
  chain_runs (one_piece d) r K ts h = piece_runs d (frame r none) K ts
  chain_runs (joined_pieces {us = us} {vs = vs} {x = x} {y = y} d e) r K ts h =
      regroup (want (frame r none) K) us (Dot ∷ vs) ts
      ∙ chain_runs d r K (Dot ∷ (vs ++ ts)) tt
      ∙ piece_runs e (frame r (some x)) K ts
      ∙ chain_takes r (some x) K y ts h

  pub piece_runs : {us : List Symbol} {x : Pattern} → Piece us x → (f : Frame) (K : List Frame) (ts : List Symbol) → run (want f K) (us ++ ts) ≡ run (have f K x) ts
  piece_runs (bare d) f K ts = base_runs d f K ts
  piece_runs (starred {us = us} d) f K ts = regroup (want f K) us (Star ∷ []) ts ∙ piece_runs d f K (Star ∷ ts)

  pub base_runs : {us : List Symbol} {x : Pattern} → Base us x → (f : Frame) (K : List Frame) (ts : List Symbol) → run (want f K) (us ++ ts) ≡ run (have f K x) ts
  base_runs blank f K ts = refl
  base_runs (round {us = us} d) f K ts = regroup (want (frame none none) (f ∷ K)) us (RightRound ∷ []) ts ∙ rule_runs d (f ∷ K) (RightRound ∷ ts) tt
  base_runs (square {us = us} d) f K ts =
      regroup (inside f K claim_start) us (RightSquare ∷ []) ts
      ∙ inside_runs f K claim_start (us ++ (RightSquare ∷ ts))
      ∙ ap (then_have f K) (claim_runs d ts)

pub run_complete : {ts : List Symbol} {x : Pattern} → Rule ts x → run start ts ≡ good x
run_complete {ts} {x} d = ap (run start) (sym (append-nil ts)) ∙ rule_runs d [] [] tt

-- no list of symbols has two trees
pub one_tree : {ts : List Symbol} {x y : Pattern} → Rule ts x → Rule ts y → x ≡ y
one_tree {ts} {x} {y} d e = let p : good x ≡ good y = sym (run_complete d) ∙ run_complete e in cc

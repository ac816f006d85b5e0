-- Sound: what the machine reads is a rule of the tree that it answers.
use Rattle.std.proofs.Common.{◌≡◌, ℕ, List, [], ◌∷◌, ◌++◌, subst, append_assoc, append-nil, arith}
use mathlib.Core.Option.{Option, none, some}
use Rattle.grammar.specs.Symbol.{Symbol, LeftSquare, LeftRound, RightRound, Bar, Dot}
use Rattle.grammar.specs.Tree.{Pattern}
use Rattle.grammar.specs.Views.{AtBase, base_Underscore, base_LeftRound, base_LeftSquare, base_other, at_base, AfterPiece, piece_Star, piece_Dot, piece_Bar, piece_RightRound, piece_other, after_piece}
use Rattle.grammar.specs.ClaimMachine.{ClaimState, ClaimStep, on, closed, stuck, claim_step}
use Rattle.grammar.specs.Patterns.{Rule, one_chain, joined_chains, Chain, one_piece, joined_pieces, Piece, bare, starred, blank, round, square}
use Rattle.grammar.specs.Machine.{Frame, frame, with_chain, with_rule, State, want, have, inside, Next, stop, go, on_want, on_have, on_inside, step, good, bad, at_end, follow, run, start}
use Rattle.grammar.proofs.ClaimSound.{ClaimReads, ClaimFine, claim_fine, claim_begun}

-- the tokens that lead to a place where a base is wanted, under these frames
data At : List Symbol → Frame → List Frame → Type 0 where
  at_start : At [] (frame none none) []
  at_paren : {ts : List Symbol} {f : Frame} {K : List Frame} → At ts f K → At (ts ++ (LeftRound ∷ [])) (frame none none) (f ∷ K)
  at_dot : {ts us : List Symbol} {r : Option Pattern} {K : List Frame} {x : Pattern} → At ts (frame r none) K → Chain us x → At (ts ++ (us ++ (Dot ∷ []))) (frame r (some x)) K
  at_bar : {ts us : List Symbol} {K : List Frame} {x : Pattern} → At ts (frame none none) K → Rule us x → At (ts ++ (us ++ (Bar ∷ []))) (frame (some x) none) K

data AtChain : List Symbol → Option Pattern → List Frame → Pattern → Type 0 where
  chain_at : {ts us : List Symbol} {r : Option Pattern} {K : List Frame} {x : Pattern} → At ts (frame r none) K → Chain us x → AtChain (ts ++ us) r K x

data AtRule : List Symbol → List Frame → Pattern → Type 0 where
  rule_at : {ts us : List Symbol} {K : List Frame} {x : Pattern} → At ts (frame none none) K → Rule us x → AtRule (ts ++ us) K x

to_chain : {ts us : List Symbol} {r c : Option Pattern} {K : List Frame} {x : Pattern} → At ts (frame r c) K → Piece us x → AtChain (ts ++ us) r K (with_chain c x)
to_chain at_start d = chain_at at_start (one_piece d)
to_chain (at_paren a) d = chain_at (at_paren a) (one_piece d)
to_chain (at_dot a e) d = simp append_assoc (chain_at a (joined_pieces e d))
to_chain (at_bar a e) d = chain_at (at_bar a e) (one_piece d)

taken_in : {ts us : List Symbol} {r : Option Pattern} {K : List Frame} {x : Pattern} → At ts (frame r none) K → Chain us x → AtRule (ts ++ us) K (with_rule r x)
taken_in at_start d = rule_at at_start (one_chain d)
taken_in (at_paren a) d = rule_at (at_paren a) (one_chain d)
taken_in (at_bar a e) d = simp append_assoc (rule_at a (joined_chains e d))

to_rule : {ts : List Symbol} {r : Option Pattern} {K : List Frame} {x : Pattern} → AtChain ts r K x → AtRule ts K (with_rule r x)
to_rule (chain_at a d) = taken_in a d

-- what was read on the way to a state
data Reads : List Symbol → State → Type 0 where
  reads_want : {ts : List Symbol} {f : Frame} {K : List Frame} → At ts f K → Reads ts (want f K)
  reads_have : {ts us : List Symbol} {f : Frame} {K : List Frame} {x : Pattern} → At ts f K → Piece us x → Reads (ts ++ us) (have f K x)
  reads_inside : {ts us : List Symbol} {f : Frame} {K : List Frame} {s : ClaimState} → At ts f K → ClaimReads us s → Reads (ts ++ (LeftSquare ∷ us)) (inside f K s)

after_dot : {ts : List Symbol} {r : Option Pattern} {K : List Frame} {x : Pattern} → AtChain ts r K x → Reads (ts ++ (Dot ∷ [])) (want (frame r (some x)) K)
after_dot (chain_at a d) = simp append_assoc (reads_want (at_dot a d))

after_bar : {ts : List Symbol} {K : List Frame} {x : Pattern} → AtRule ts K x → Reads (ts ++ (Bar ∷ [])) (want (frame (some x) none) K)
after_bar (rule_at a d) = simp append_assoc (reads_want (at_bar a d))

in_round : {ts us : List Symbol} {g : Frame} {K : List Frame} {x : Pattern} → At ts (frame none none) (g ∷ K) → Rule us x → Reads ((ts ++ us) ++ (RightRound ∷ [])) (have g K x)
in_round (at_paren a) d = simp append_assoc (reads_have a (bare (round d)))

after_rpar : {ts : List Symbol} {g : Frame} {K : List Frame} {x : Pattern} → AtRule ts (g ∷ K) x → Reads (ts ++ (RightRound ∷ [])) (have g K x)
after_rpar (rule_at a d) = in_round a d

abbrev Fine : List Symbol → Next → Type 0
Fine ts stop = Unit {0}
Fine ts (go s) = Reads ts s

fine_want : {ts : List Symbol} {f : Frame} {K : List Frame} → At ts f K → {t : Symbol} → (v : AtBase t) → Fine (ts ++ (t ∷ [])) (on_want f K v)
fine_want a base_Underscore = reads_have a (bare blank)
fine_want a base_LeftRound = reads_want (at_paren a)
fine_want a base_LeftSquare = reads_inside a claim_begun
fine_want a (base_other t) = tt

fine_have : {ts us : List Symbol} (f : Frame) (K : List Frame) {x : Pattern} → At ts f K → Piece us x → {t : Symbol} → (v : AfterPiece t) → Fine ((ts ++ us) ++ (t ∷ [])) (on_have f K x v)
fine_have f K a d piece_Star = simp append_assoc (reads_have a (starred d))
fine_have (frame r c) K a d piece_Dot = after_dot (to_chain a d)
fine_have (frame r c) K a d piece_Bar = after_bar (to_rule (to_chain a d))
fine_have (frame r c) [] a d piece_RightRound = tt
fine_have (frame r c) (g ∷ K) a d piece_RightRound = after_rpar (to_rule (to_chain a d))
fine_have f K a d (piece_other t) = tt

fine_inside : {ts : List Symbol} (us : List Symbol) {f : Frame} {K : List Frame} (t : Symbol) → At ts f K → (n : ClaimStep) → ClaimFine us t n → Fine ((ts ++ (LeftSquare ∷ us)) ++ (t ∷ [])) (on_inside f K n)
fine_inside us t a (on s) r = simp append_assoc (reads_inside a r)
fine_inside us t a (closed c) r = rw r.0 (simp append_assoc (reads_have a (bare (square r.1))))
fine_inside us t a stuck r = tt

fine : {ts : List Symbol} {s : State} → Reads ts s → (t : Symbol) → Fine (ts ++ (t ∷ [])) (step s t)
fine (reads_want a) t = fine_want a (at_base t)
fine (reads_have {f = f} {K = K} a d) t = fine_have f K a d (after_piece t)
fine (reads_inside {us = us} {s = s} a r) t = fine_inside us t a (claim_step s t) (claim_fine r t)

whole : {ts : List Symbol} {x : Pattern} → AtRule ts [] x → Rule ts x
whole (rule_at a d) = from_start a d
  where
    from_start : {ts us : List Symbol} {x : Pattern} → At ts (frame none none) [] → Rule us x → Rule (ts ++ us) x
    from_start at_start d = d

bad_good : {A : Type 0} {ts : List Symbol} {x : Pattern} → bad ts ≡ good x → A
bad_good e = absurd (let z : ◌≡◌ {A = ℕ} 0 1 = cc in omega arith)

have_end : {ts us : List Symbol} (f : Frame) (K : List Frame) {y : Pattern} → At ts f K → Piece us y → (x : Pattern) → at_end (have f K y) ≡ good x → Rule (ts ++ us) x
have_end {ts} {us} (frame r c) [] {y} a d x e = let p : with_rule r (with_chain c y) ≡ x = cc in subst (Rule (ts ++ us)) p (whole (to_rule (to_chain a d)))
have_end (frame r c) (g ∷ K) a d x e = bad_good e

at_the_end : {ts : List Symbol} {s : State} → Reads ts s → (x : Pattern) → at_end s ≡ good x → Rule ts x
at_the_end (reads_want a) x e = bad_good e
at_the_end (reads_have {f = f} {K = K} a d) x e = have_end f K a d x e
at_the_end (reads_inside a r) x e = bad_good e

run_sound : (rest : List Symbol) {ts : List Symbol} {s : State} → Reads ts s → (x : Pattern) → run s rest ≡ good x → Rule (ts ++ rest) x
run_sound [] {ts} r x e = rw append-nil (at_the_end r x e)
run_sound (t ∷ rest) {ts} {s} r x e = by_next (step s t) (fine r t) (λ s' q. run_sound rest {s = s'} q x) e
  where
    by_next : (n : Next) → Fine (ts ++ (t ∷ [])) n → ((s' : State) → Reads (ts ++ (t ∷ [])) s' → run s' rest ≡ good x → Rule ((ts ++ (t ∷ [])) ++ rest) x) → follow n t rest (λ s'. run s' rest) ≡ good x → Rule (ts ++ (t ∷ rest)) x
    by_next stop q ih e = bad_good e
    by_next (go s') q ih e = rw append_assoc at (ih s' q e)

pub run_rule : (ts : List Symbol) (x : Pattern) → run start ts ≡ good x → Rule ts x
run_rule ts x e = run_sound ts (reads_want at_start) x e

-- Every reading of a claim can be completed.
use Rattle.std.proofs.Common.{◌≡◌, List, [], ◌∷◌, ◌++◌, refl}
use Rattle.grammar.specs.Symbol.{Plus, Relation, Equal, Symbol, RightSquare, RightRound, Quote, True, Relational, Number, FieldName, Op, Newest, Constant, Named}
use Rattle.grammar.specs.Tree.{Sum, first, Claim, truth, presence, comparison}
use Rattle.grammar.specs.ClaimMachine.{ClaimFrame, claim_frame, with_nots, with_both, with_either, with_if, with_sum, Side, left, right, ClaimState, single_wanted, single_had, name_wanted, name_had, sum_wanted, term_wanted, term_named, term_had, claim_good, claim_run}

abbrev pub ClaimEnds : ClaimState → Type 0
ClaimEnds s = (us : List Symbol) × (c : Claim) × ((ts : List Symbol) → claim_run s (us ++ ts) ≡ claim_good c ts)

had_ends : (H : List ClaimFrame) (g : ClaimFrame) (x : Claim) → ClaimEnds (single_had g H x)
had_ends [] (claim_frame i o a n) x = (RightSquare ∷ [], with_if i (with_either o (with_both a (with_nots n x))), λ ts. refl)
had_ends (g ∷ H) (claim_frame i o a n) x =
    let e = had_ends H g (with_if i (with_either o (with_both a (with_nots n x)))) in
    (RightRound ∷ e.0, e.1, e.2)

right_ends : (H : List ClaimFrame) (g : ClaimFrame) (r : Relation) (l s : Sum) → ClaimEnds (term_had g H (right r l) s)
right_ends [] (claim_frame i o a n) r l s = (RightSquare ∷ [], with_if i (with_either o (with_both a (with_nots n (comparison r l s)))), λ ts. refl)
right_ends (g ∷ H) (claim_frame i o a n) r l s =
    let e = had_ends H g (with_if i (with_either o (with_both a (with_nots n (comparison r l s))))) in
    (RightRound ∷ e.0, e.1, e.2)

term_ends : (g : ClaimFrame) (H : List ClaimFrame) (h : Side) (s : Sum) → ClaimEnds (term_had g H h s)
term_ends g H left s = let e = right_ends H g Equal s (first Plus (Constant 0)) in (Relational Equal ∷ Number 0 ∷ e.0, e.1, e.2)
term_ends g H (right r l) s = right_ends H g r l s

pub claim_end : (s : ClaimState) → ClaimEnds s
claim_end (single_wanted g H) = let e = had_ends H g truth in (True ∷ e.0, e.1, e.2)
claim_end (single_had g H x) = had_ends H g x
claim_end (name_wanted g H) = let e = had_ends H g (presence (Newest Op)) in (FieldName Op ∷ Quote ∷ e.0, e.1, e.2)
claim_end (name_had g H k) = let e = had_ends H g (presence (Newest k)) in (Quote ∷ e.0, e.1, e.2)
claim_end (sum_wanted g H h) = let e = term_ends g H h (first Plus (Constant 0)) in (Number 0 ∷ e.0, e.1, e.2)
claim_end (term_wanted g H h a d) = let e = term_ends g H h (with_sum a d (Constant 0)) in (Number 0 ∷ e.0, e.1, e.2)
claim_end (term_named g H h a d k) = let e = term_ends g H h (with_sum a d (Named (Newest k))) in (Quote ∷ e.0, e.1, e.2)
claim_end (term_had g H h s) = term_ends g H h s

-- Sound, for claims: what the machine reads is a claim of the tree that it answers.
use Rattle.std.proofs.Common.{◌≡◌, ℕ, zero, suc, ◌<◌, Bool, true, false, T, ltb, List, [], ◌∷◌, ◌++◌, sym, refl, subst, append_assoc, arith, ltb→lt}
use mathlib.Core.Option.{Option, none, some}
use Rattle.grammar.specs.Symbol.{Sign, Plus, Minus, Relation, Symbol, RightSquare, LeftRound, RightRound, Quote, Arrow, And, Or, Not, Has, Additive, Relational, FieldName, Field, Plain, Newest, Term, Named}
use Rattle.grammar.specs.Tree.{Sum, terms, Claim, presence}
use Rattle.grammar.specs.Claims.{unquoted, quoted, IsTerm, a_number, a_name, Terms, one_term, minus_term, joined_terms, IsSum, to_eight, IsClaim, one_either, implied, IsEither, one_both, joined_boths, IsBoth, one_single, joined_singles, IsSingle, denied, bracketed, is_true, is_known, compared}
use Rattle.grammar.specs.Views.{AtSingle, single_Not, single_LeftRound, single_True, single_Has, single_Additive, single_Number, single_FieldName, single_other, at_single, AfterSingle, after_Quote, after_Additive, after_Relational, after_And, after_Or, after_Arrow, after_RightRound, after_RightSquare, after_other, after_single}
use Rattle.grammar.specs.ClaimMachine.{ClaimFrame, claim_frame, fresh, with_nots, with_both, with_either, with_if, with_sum, Side, left, right, ClaimState, single_wanted, single_had, name_wanted, name_had, sum_wanted, term_wanted, term_named, term_had, ClaimStep, on, closed, stuck, if_quote, if_sign, if_cmp, if_and, if_or, on_either, on_both, on_had, if_room, on_sum, on_term, want_name, want_term, want_sum, want_single, claim_step, claim_start}

-- the tokens since the `[` that lead to a place where a single is wanted
pub data At : List Symbol → ClaimFrame → List ClaimFrame → Type 0 where
  at_start : At [] fresh []
  at_paren : {ts : List Symbol} {g : ClaimFrame} {H : List ClaimFrame} → At ts g H → At (ts ++ (LeftRound ∷ [])) fresh (g ∷ H)
  at_not : {ts : List Symbol} {i o a : Option Claim} {n : ℕ} {H : List ClaimFrame} → At ts (claim_frame i o a n) H → At (ts ++ (Not ∷ [])) (claim_frame i o a (suc n)) H
  at_and : {ts us : List Symbol} {i o : Option Claim} {H : List ClaimFrame} {x : Claim} → At ts (claim_frame i o none zero) H → IsBoth us x → At (ts ++ (us ++ (And ∷ []))) (claim_frame i o (some x) zero) H
  at_or : {ts us : List Symbol} {i : Option Claim} {H : List ClaimFrame} {x : Claim} → At ts (claim_frame i none none zero) H → IsEither us x → At (ts ++ (us ++ (Or ∷ []))) (claim_frame i (some x) none zero) H
  at_arrow : {ts us : List Symbol} {H : List ClaimFrame} {x : Claim} → At ts fresh H → IsEither us x → At (ts ++ (us ++ (Arrow ∷ []))) (claim_frame (some x) none none zero) H

data AtBoth : List Symbol → Option Claim → Option Claim → List ClaimFrame → Claim → Type 0 where
  both_at : {ts us : List Symbol} {i o : Option Claim} {H : List ClaimFrame} {x : Claim} → At ts (claim_frame i o none zero) H → IsBoth us x → AtBoth (ts ++ us) i o H x

data AtEither : List Symbol → Option Claim → List ClaimFrame → Claim → Type 0 where
  either_at : {ts us : List Symbol} {i : Option Claim} {H : List ClaimFrame} {x : Claim} → At ts (claim_frame i none none zero) H → IsEither us x → AtEither (ts ++ us) i H x

data AtWhole : List Symbol → List ClaimFrame → Claim → Type 0 where
  whole_at : {ts us : List Symbol} {H : List ClaimFrame} {x : Claim} → At ts fresh H → IsClaim us x → AtWhole (ts ++ us) H x

to_both : {ts us : List Symbol} {i o a : Option Claim} {n : ℕ} {H : List ClaimFrame} {x : Claim} → At ts (claim_frame i o a n) H → IsSingle us x → AtBoth (ts ++ us) i o H (with_both a (with_nots n x))
to_both at_start d = both_at at_start (one_single d)
to_both (at_paren a) d = both_at (at_paren a) (one_single d)
to_both (at_not a) d = simp append_assoc (to_both a (denied d))
to_both (at_and a e) d = simp append_assoc (both_at a (joined_singles e d))
to_both (at_or a e) d = both_at (at_or a e) (one_single d)
to_both (at_arrow a e) d = both_at (at_arrow a e) (one_single d)

or_taken : {ts us : List Symbol} {i o : Option Claim} {H : List ClaimFrame} {x : Claim} → At ts (claim_frame i o none zero) H → IsBoth us x → AtEither (ts ++ us) i H (with_either o x)
or_taken at_start d = either_at at_start (one_both d)
or_taken (at_paren a) d = either_at (at_paren a) (one_both d)
or_taken (at_or a e) d = simp append_assoc (either_at a (joined_boths e d))
or_taken (at_arrow a e) d = either_at (at_arrow a e) (one_both d)

to_either : {ts : List Symbol} {i o : Option Claim} {H : List ClaimFrame} {x : Claim} → AtBoth ts i o H x → AtEither ts i H (with_either o x)
to_either (both_at a d) = or_taken a d

if_taken : {ts us : List Symbol} {i : Option Claim} {H : List ClaimFrame} {x : Claim} → At ts (claim_frame i none none zero) H → IsEither us x → AtWhole (ts ++ us) H (with_if i x)
if_taken at_start d = whole_at at_start (one_either d)
if_taken (at_paren a) d = whole_at (at_paren a) (one_either d)
if_taken (at_arrow a e) d = simp append_assoc (whole_at a (implied e d))

to_whole : {ts : List Symbol} {i : Option Claim} {H : List ClaimFrame} {x : Claim} → AtEither ts i H x → AtWhole ts H (with_if i x)
to_whole (either_at a d) = if_taken a d

-- the tokens up to the start of a sum
pub data SumAt : List Symbol → ClaimFrame → List ClaimFrame → Side → Type 0 where
  on_left : {ts : List Symbol} {g : ClaimFrame} {H : List ClaimFrame} → At ts g H → SumAt ts g H left
  on_right : {ts us : List Symbol} {g : ClaimFrame} {H : List ClaimFrame} {l : Sum} → At ts g H → IsSum us l → (r : Relation) → SumAt (ts ++ (us ++ (Relational r ∷ []))) g H (right r l)

-- the tokens of a sum up to the start of a term
pub data TermAt : List Symbol → Option Sum → Sign → Type 0 where
  no_sign : TermAt [] none Plus
  minus_sign : TermAt (Additive Minus ∷ []) none Minus
  later : {us : List Symbol} {s : Sum} → Terms us s → terms s < 8 → (d : Sign) → TermAt (us ++ (Additive d ∷ [])) (some s) d

with_term : {us vs : List Symbol} {a : Option Sum} {d : Sign} {t : Term} → TermAt us a d → IsTerm vs t → IsSum (us ++ vs) (with_sum a d t)
with_term no_sign e = to_eight (one_term e) (omega arith)
with_term minus_sign e = to_eight (minus_term e) (omega arith)
with_term (later f q d) e = simp append_assoc (to_eight (joined_terms f d e) q)

-- what was read since the `[`
pub data ClaimReads : List Symbol → ClaimState → Type 0 where
  reads_wanted : {ts : List Symbol} {g : ClaimFrame} {H : List ClaimFrame} → At ts g H → ClaimReads ts (single_wanted g H)
  reads_had : {ts us : List Symbol} {g : ClaimFrame} {H : List ClaimFrame} {x : Claim} → At ts g H → IsSingle us x → ClaimReads (ts ++ us) (single_had g H x)
  reads_has : {ts : List Symbol} {g : ClaimFrame} {H : List ClaimFrame} → At ts g H → ClaimReads (ts ++ (Has ∷ [])) (name_wanted g H)
  reads_has_name : {ts : List Symbol} {g : ClaimFrame} {H : List ClaimFrame} → At ts g H → (k : Field) → ClaimReads (ts ++ (Has ∷ FieldName k ∷ [])) (name_had g H k)
  reads_sum : {ts : List Symbol} {g : ClaimFrame} {H : List ClaimFrame} {h : Side} → SumAt ts g H h → ClaimReads ts (sum_wanted g H h)
  reads_sign : {ts us : List Symbol} {g : ClaimFrame} {H : List ClaimFrame} {h : Side} {a : Option Sum} {d : Sign} → SumAt ts g H h → TermAt us a d → ClaimReads (ts ++ us) (term_wanted g H h a d)
  reads_name : {ts us : List Symbol} {g : ClaimFrame} {H : List ClaimFrame} {h : Side} {a : Option Sum} {d : Sign} → SumAt ts g H h → TermAt us a d → (k : Field) → ClaimReads (ts ++ (us ++ (FieldName k ∷ []))) (term_named g H h a d k)
  reads_term : {ts us : List Symbol} {g : ClaimFrame} {H : List ClaimFrame} {h : Side} {s : Sum} → SumAt ts g H h → IsSum us s → ClaimReads (ts ++ us) (term_had g H h s)

abbrev pub ClaimFine : List Symbol → Symbol → ClaimStep → Type 0
ClaimFine us t (on s) = ClaimReads (us ++ (t ∷ [])) s
ClaimFine us t (closed c) = (t ≡ RightSquare) × IsClaim us c
ClaimFine us t stuck = Unit {0}

fine_quote : (us : List Symbol) {t : Symbol} (v : AfterSingle t) (p : ClaimStep) (q : ClaimStep) → ClaimFine us Quote p → ClaimFine us t q → ClaimFine us t (if_quote v p q)
fine_quote us after_Quote p q hit miss = hit
fine_quote us (after_Additive x) p q hit miss = miss
fine_quote us (after_Relational x) p q hit miss = miss
fine_quote us after_And p q hit miss = miss
fine_quote us after_Or p q hit miss = miss
fine_quote us after_Arrow p q hit miss = miss
fine_quote us after_RightRound p q hit miss = miss
fine_quote us after_RightSquare p q hit miss = miss
fine_quote us (after_other x) p q hit miss = miss

fine_sign : (us : List Symbol) {t : Symbol} (v : AfterSingle t) (p : Sign → ClaimStep) (q : ClaimStep) → ((x : Sign) → ClaimFine us (Additive x) (p x)) → ClaimFine us t q → ClaimFine us t (if_sign v p q)
fine_sign us after_Quote p q hit miss = miss
fine_sign us (after_Additive x) p q hit miss = hit x
fine_sign us (after_Relational x) p q hit miss = miss
fine_sign us after_And p q hit miss = miss
fine_sign us after_Or p q hit miss = miss
fine_sign us after_Arrow p q hit miss = miss
fine_sign us after_RightRound p q hit miss = miss
fine_sign us after_RightSquare p q hit miss = miss
fine_sign us (after_other x) p q hit miss = miss

fine_cmp : (us : List Symbol) {t : Symbol} (v : AfterSingle t) (p : Relation → ClaimStep) (q : ClaimStep) → ((x : Relation) → ClaimFine us (Relational x) (p x)) → ClaimFine us t q → ClaimFine us t (if_cmp v p q)
fine_cmp us after_Quote p q hit miss = miss
fine_cmp us (after_Additive x) p q hit miss = miss
fine_cmp us (after_Relational x) p q hit miss = hit x
fine_cmp us after_And p q hit miss = miss
fine_cmp us after_Or p q hit miss = miss
fine_cmp us after_Arrow p q hit miss = miss
fine_cmp us after_RightRound p q hit miss = miss
fine_cmp us after_RightSquare p q hit miss = miss
fine_cmp us (after_other x) p q hit miss = miss

fine_and : (us : List Symbol) {t : Symbol} (v : AfterSingle t) (p : ClaimStep) (q : ClaimStep) → ClaimFine us And p → ClaimFine us t q → ClaimFine us t (if_and v p q)
fine_and us after_Quote p q hit miss = miss
fine_and us (after_Additive x) p q hit miss = miss
fine_and us (after_Relational x) p q hit miss = miss
fine_and us after_And p q hit miss = hit
fine_and us after_Or p q hit miss = miss
fine_and us after_Arrow p q hit miss = miss
fine_and us after_RightRound p q hit miss = miss
fine_and us after_RightSquare p q hit miss = miss
fine_and us (after_other x) p q hit miss = miss

fine_or : (us : List Symbol) {t : Symbol} (v : AfterSingle t) (p : ClaimStep) (q : ClaimStep) → ClaimFine us Or p → ClaimFine us t q → ClaimFine us t (if_or v p q)
fine_or us after_Quote p q hit miss = miss
fine_or us (after_Additive x) p q hit miss = miss
fine_or us (after_Relational x) p q hit miss = miss
fine_or us after_And p q hit miss = miss
fine_or us after_Or p q hit miss = hit
fine_or us after_Arrow p q hit miss = miss
fine_or us after_RightRound p q hit miss = miss
fine_or us after_RightSquare p q hit miss = miss
fine_or us (after_other x) p q hit miss = miss

after_or : {ts : List Symbol} {i : Option Claim} {H : List ClaimFrame} {x : Claim} → AtEither ts i H x → ClaimReads (ts ++ (Or ∷ [])) (single_wanted (claim_frame i (some x) none zero) H)
after_or (either_at a d) = simp append_assoc (reads_wanted (at_or a d))

after_and : {ts : List Symbol} {i o : Option Claim} {H : List ClaimFrame} {x : Claim} → AtBoth ts i o H x → ClaimReads (ts ++ (And ∷ [])) (single_wanted (claim_frame i o (some x) zero) H)
after_and (both_at a d) = simp append_assoc (reads_wanted (at_and a d))

after_arrow : {ts : List Symbol} {H : List ClaimFrame} {x : Claim} → AtEither ts none H x → ClaimReads (ts ++ (Arrow ∷ [])) (single_wanted (claim_frame (some x) none none zero) H)
after_arrow (either_at a d) = simp append_assoc (reads_wanted (at_arrow a d))

in_round : {ts us : List Symbol} {g : ClaimFrame} {H : List ClaimFrame} {x : Claim} → At ts fresh (g ∷ H) → IsClaim us x → ClaimReads ((ts ++ us) ++ (RightRound ∷ [])) (single_had g H x)
in_round (at_paren a) d = simp append_assoc (reads_had a (bracketed d))

after_rpar : {ts : List Symbol} {g : ClaimFrame} {H : List ClaimFrame} {x : Claim} → AtWhole ts (g ∷ H) x → ClaimReads (ts ++ (RightRound ∷ [])) (single_had g H x)
after_rpar (whole_at a d) = in_round a d

in_square : {ts us : List Symbol} {x : Claim} → At ts fresh [] → IsClaim us x → IsClaim (ts ++ us) x
in_square at_start d = d

whole : {ts : List Symbol} {x : Claim} → AtWhole ts [] x → IsClaim ts x
whole (whole_at a d) = in_square a d

fine_either : {ts : List Symbol} (i : Option Claim) (H : List ClaimFrame) {x : Claim} → AtEither ts i H x → {t : Symbol} → (v : AfterSingle t) → ClaimFine ts t (on_either i H x v)
fine_either i H a after_Quote = tt
fine_either i H a (after_Additive x) = tt
fine_either i H a (after_Relational x) = tt
fine_either i H a after_And = tt
fine_either i H a after_Or = tt
fine_either none H a after_Arrow = after_arrow a
fine_either (some i) H a after_Arrow = tt
fine_either i [] a after_RightRound = tt
fine_either i (g ∷ H) a after_RightRound = after_rpar (to_whole a)
fine_either i [] a after_RightSquare = (refl, whole (to_whole a))
fine_either i (g ∷ H) a after_RightSquare = tt
fine_either i H a (after_other x) = tt

fine_both : (ts : List Symbol) (i o : Option Claim) (H : List ClaimFrame) (x : Claim) → AtBoth ts i o H x → {t : Symbol} → (v : AfterSingle t) → ClaimFine ts t (on_both i o H x v)
fine_both ts i o H x a v =
    fine_or ts v (on (single_wanted (claim_frame i (some (with_either o x)) none zero) H)) (on_either i H (with_either o x) v)
    (after_or (to_either a)) (fine_either i H (to_either a) v)

fine_had : {ts us : List Symbol} (g : ClaimFrame) {H : List ClaimFrame} {x : Claim} → At ts g H → IsSingle us x → {t : Symbol} → (v : AfterSingle t) → ClaimFine (ts ++ us) t (on_had g H x v)
fine_had {ts} {us} (claim_frame i o a n) {H} {x} b d v =
    let c : AtBoth (ts ++ us) i o H (with_both a (with_nots n x)) = to_both b d in
    fine_and (ts ++ us) v (on (single_wanted (claim_frame i o (some (with_both a (with_nots n x))) zero) H)) (on_both i o H (with_both a (with_nots n x)) v)
    (after_and c) (fine_both (ts ++ us) i o H (with_both a (with_nots n x)) c v)

fine_room : {ts us : List Symbol} {g : ClaimFrame} {H : List ClaimFrame} {h : Side} {s : Sum} → SumAt ts g H h → IsSum us s → (d : Sign) (b : Bool) → ltb (terms s) 8 ≡ b → ClaimFine (ts ++ us) (Additive d) (if_room b (on (term_wanted g H h (some s) d)))
fine_room {s} a (to_eight e q) d true p = simp append_assoc (reads_sign a (later e (ltb→lt (terms s) 8 (subst T (sym p) tt)) d))
fine_room a e d false p = tt

fine_sum : {ts us : List Symbol} {g : ClaimFrame} {H : List ClaimFrame} (h : Side) {s : Sum} → SumAt ts g H h → IsSum us s → {t : Symbol} → (v : AfterSingle t) → ClaimFine (ts ++ us) t (on_sum g H h s v)
fine_sum {ts} {us} {g} {H} left {s} (on_left a) e v = fine_cmp (ts ++ us) v (λ r. on (sum_wanted g H (right r s))) stuck (λ r. simp append_assoc (reads_sum (on_right a e r))) tt
fine_sum {g} (right r l) (on_right a e q) f v = simp append_assoc (fine_had g a (compared e r f) v)

fine_term : {ts us : List Symbol} {g : ClaimFrame} {H : List ClaimFrame} {h : Side} {s : Sum} → SumAt ts g H h → IsSum us s → {t : Symbol} → (v : AfterSingle t) → ClaimFine (ts ++ us) t (on_term g H h s v)
fine_term {ts} {us} {g} {H} {h} {s} a e v =
    fine_sign (ts ++ us) v (λ d. if_room (ltb (terms s) 8) (on (term_wanted g H h (some s) d))) (on_sum g H h s v)
    (λ d. fine_room a e d (ltb (terms s) 8) refl) (fine_sum h a e v)

want_name_fine : {ts : List Symbol} {g : ClaimFrame} {H : List ClaimFrame} → At ts g H → {t : Symbol} → (v : AtSingle t) → ClaimFine (ts ++ (Has ∷ [])) t (want_name g H v)
want_name_fine a single_Not = tt
want_name_fine a single_LeftRound = tt
want_name_fine a single_True = tt
want_name_fine a single_Has = tt
want_name_fine a (single_Additive x) = tt
want_name_fine a (single_Number x) = tt
want_name_fine a (single_FieldName x) = simp append_assoc (reads_has_name a x)
want_name_fine a (single_other x) = tt

want_term_fine : {ts us : List Symbol} {g : ClaimFrame} {H : List ClaimFrame} {h : Side} {a : Option Sum} {d : Sign} → SumAt ts g H h → TermAt us a d → {t : Symbol} → (v : AtSingle t) → ClaimFine (ts ++ us) t (want_term g H h a d v)
want_term_fine b e single_Not = tt
want_term_fine b e single_LeftRound = tt
want_term_fine b e single_True = tt
want_term_fine b e single_Has = tt
want_term_fine b e (single_Additive x) = tt
want_term_fine b e (single_Number x) = simp append_assoc (reads_term b (with_term e (a_number x)))
want_term_fine b e (single_FieldName x) = simp append_assoc (reads_name b e x)
want_term_fine b e (single_other x) = tt

want_sum_fine : {ts : List Symbol} {g : ClaimFrame} {H : List ClaimFrame} {h : Side} → SumAt ts g H h → {t : Symbol} → (v : AtSingle t) → ClaimFine ts t (want_sum g H h v)
want_sum_fine b single_Not = tt
want_sum_fine b single_LeftRound = tt
want_sum_fine b single_True = tt
want_sum_fine b single_Has = tt
want_sum_fine b (single_Additive Plus) = tt
want_sum_fine b (single_Additive Minus) = reads_sign b minus_sign
want_sum_fine b (single_Number x) = reads_term b (with_term no_sign (a_number x))
want_sum_fine b (single_FieldName x) = reads_name b no_sign x
want_sum_fine b (single_other x) = tt

want_single_fine : {ts : List Symbol} (g : ClaimFrame) {H : List ClaimFrame} → At ts g H → {t : Symbol} → (v : AtSingle t) → ClaimFine ts t (want_single g H v)
want_single_fine (claim_frame i o e n) a single_Not = reads_wanted (at_not a)
want_single_fine g a single_LeftRound = reads_wanted (at_paren a)
want_single_fine g a single_True = reads_had a is_true
want_single_fine g a single_Has = reads_has a
want_single_fine g a (single_Additive x) = want_sum_fine (on_left a) (single_Additive x)
want_single_fine g a (single_Number x) = want_sum_fine (on_left a) (single_Number x)
want_single_fine g a (single_FieldName x) = want_sum_fine (on_left a) (single_FieldName x)
want_single_fine g a (single_other x) = tt

pub claim_fine : {us : List Symbol} {s : ClaimState} → ClaimReads us s → (t : Symbol) → ClaimFine us t (claim_step s t)
claim_fine (reads_wanted {g = g} a) t = want_single_fine g a (at_single t)
claim_fine (reads_had {g = g} a d) t = fine_had g a d (after_single t)
claim_fine (reads_has a) t = want_name_fine a (at_single t)
claim_fine (reads_has_name {ts = ts} {g = g} {H = H} a k) t =
    fine_quote (ts ++ (Has ∷ FieldName k ∷ [])) (after_single t) (on (single_had g H (presence (Newest k)))) (on_had g H (presence (Plain k)) (after_single t))
    (simp append_assoc (reads_had a (is_known (quoted k)))) (fine_had g a (is_known (unquoted k)) (after_single t))
claim_fine (reads_sum a) t = want_sum_fine a (at_single t)
claim_fine (reads_sign a e) t = want_term_fine a e (at_single t)
claim_fine (reads_name {ts = ts} {us = us} {g = g} {H = H} {h = h} {a = b} {d = d} a e k) t =
    fine_quote (ts ++ (us ++ (FieldName k ∷ []))) (after_single t) (on (term_had g H h (with_sum b d (Named (Newest k))))) (on_term g H h (with_sum b d (Named (Plain k))) (after_single t))
    (simp append_assoc (reads_term a (with_term e (a_name (quoted k))))) (fine_term a (with_term e (a_name (unquoted k))) (after_single t))
claim_fine (reads_term a e) t = fine_term a e (after_single t)

pub claim_begun : ClaimReads [] claim_start
claim_begun = reads_wanted at_start

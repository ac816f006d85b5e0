-- Reading a claim symbol by symbol, up to its closing `]`. A state is what stands open to the left. Only proofs and private
-- contracts speak of this machine: what a text means is said by the grammar.
use Rattle.std.specs.Prelude.{ℕ, zero, suc, Bool, true, false, List, [], ◌∷◌, nat_lt}
use Rattle.std.proofs.Math.Option.{Option, none, some}
use Rattle.grammar.specs.Symbol.{Sign, Plus, Minus, Relation, Symbol, Field, Plain, Newest, Term, Constant, Named}
use Rattle.grammar.specs.Tree.{Sum, first, more, terms, Claim, implication, disjunction, conjunction, negation, truth, presence, comparison}
use Rattle.grammar.specs.Views.{AtSingle, single_Not, single_LeftRound, single_True, single_Has, single_Additive, single_Number, single_FieldName, single_other, at_single, AfterSingle, after_Quote, after_Additive, after_Relational, after_And, after_Or, after_Arrow, after_RightRound, after_RightSquare, after_other, after_single}

-- what was joined so far at one depth of round brackets: the either before `=>`, the either before the last `or`, the both
-- before the last `and`, and how many `not` stand after that
pub data ClaimFrame : Type 0 where
  claim_frame : Option Claim → Option Claim → Option Claim → ℕ → ClaimFrame

abbrev pub fresh : ClaimFrame
fresh = claim_frame none none none zero

abbrev pub with_nots : ℕ → Claim → Claim
with_nots zero x = x
with_nots (suc n) x = with_nots n (negation x)

abbrev pub with_both : Option Claim → Claim → Claim
with_both none x = x
with_both (some a) x = conjunction a x

abbrev pub with_either : Option Claim → Claim → Claim
with_either none x = x
with_either (some a) x = disjunction a x

abbrev pub with_if : Option Claim → Claim → Claim
with_if none x = x
with_if (some a) x = implication a x

abbrev pub with_sum : Option Sum → Sign → Term → Sum
with_sum none d t = first d t
with_sum (some s) d t = more s d t

-- the left sum of a comparison, or the right one, with what stands before it
pub data Side : Type 0 where
  left : Side
  right : Relation → Sum → Side

pub data ClaimState : Type 0 where
  single_wanted : ClaimFrame → List ClaimFrame → ClaimState
  single_had : ClaimFrame → List ClaimFrame → Claim → ClaimState
  name_wanted : ClaimFrame → List ClaimFrame → ClaimState
  name_had : ClaimFrame → List ClaimFrame → Field → ClaimState
  sum_wanted : ClaimFrame → List ClaimFrame → Side → ClaimState
  term_wanted : ClaimFrame → List ClaimFrame → Side → Option Sum → Sign → ClaimState
  term_named : ClaimFrame → List ClaimFrame → Side → Option Sum → Sign → Field → ClaimState
  term_had : ClaimFrame → List ClaimFrame → Side → Sum → ClaimState

pub data ClaimStep : Type 0 where
  on : ClaimState → ClaimStep
  closed : Claim → ClaimStep
  stuck : ClaimStep

abbrev pub if_quote : {t : Symbol} → AfterSingle t → ClaimStep → ClaimStep → ClaimStep
if_quote after_Quote p q = p
if_quote (after_Additive x) p q = q
if_quote (after_Relational x) p q = q
if_quote after_And p q = q
if_quote after_Or p q = q
if_quote after_Arrow p q = q
if_quote after_RightRound p q = q
if_quote after_RightSquare p q = q
if_quote (after_other x) p q = q

abbrev pub if_sign : {t : Symbol} → AfterSingle t → (Sign → ClaimStep) → ClaimStep → ClaimStep
if_sign after_Quote p q = q
if_sign (after_Additive x) p q = p x
if_sign (after_Relational x) p q = q
if_sign after_And p q = q
if_sign after_Or p q = q
if_sign after_Arrow p q = q
if_sign after_RightRound p q = q
if_sign after_RightSquare p q = q
if_sign (after_other x) p q = q

abbrev pub if_cmp : {t : Symbol} → AfterSingle t → (Relation → ClaimStep) → ClaimStep → ClaimStep
if_cmp after_Quote p q = q
if_cmp (after_Additive x) p q = q
if_cmp (after_Relational x) p q = p x
if_cmp after_And p q = q
if_cmp after_Or p q = q
if_cmp after_Arrow p q = q
if_cmp after_RightRound p q = q
if_cmp after_RightSquare p q = q
if_cmp (after_other x) p q = q

abbrev pub if_and : {t : Symbol} → AfterSingle t → ClaimStep → ClaimStep → ClaimStep
if_and after_Quote p q = q
if_and (after_Additive x) p q = q
if_and (after_Relational x) p q = q
if_and after_And p q = p
if_and after_Or p q = q
if_and after_Arrow p q = q
if_and after_RightRound p q = q
if_and after_RightSquare p q = q
if_and (after_other x) p q = q

abbrev pub if_or : {t : Symbol} → AfterSingle t → ClaimStep → ClaimStep → ClaimStep
if_or after_Quote p q = q
if_or (after_Additive x) p q = q
if_or (after_Relational x) p q = q
if_or after_And p q = q
if_or after_Or p q = p
if_or after_Arrow p q = q
if_or after_RightRound p q = q
if_or after_RightSquare p q = q
if_or (after_other x) p q = q

-- after an either: `=>` if none stands before it, or the bracket that closes the claim
abbrev pub on_either : Option Claim → List ClaimFrame → Claim → {t : Symbol} → AfterSingle t → ClaimStep
on_either i H e after_Quote = stuck
on_either i H e (after_Additive x) = stuck
on_either i H e (after_Relational x) = stuck
on_either i H e after_And = stuck
on_either i H e after_Or = stuck
on_either none H e after_Arrow = on (single_wanted (claim_frame (some e) none none zero) H)
on_either (some i) H e after_Arrow = stuck
on_either i [] e after_RightRound = stuck
on_either i (g ∷ H) e after_RightRound = on (single_had g H (with_if i e))
on_either i [] e after_RightSquare = closed (with_if i e)
on_either i (g ∷ H) e after_RightSquare = stuck
on_either i H e (after_other x) = stuck

abbrev pub on_both : Option Claim → Option Claim → List ClaimFrame → Claim → {t : Symbol} → AfterSingle t → ClaimStep
on_both i o H b v = if_or v (on (single_wanted (claim_frame i (some (with_either o b)) none zero) H)) (on_either i H (with_either o b) v)

abbrev pub on_single : Option Claim → Option Claim → List ClaimFrame → Claim → {t : Symbol} → AfterSingle t → ClaimStep
on_single i o H a v = if_and v (on (single_wanted (claim_frame i o (some a) zero) H)) (on_both i o H a v)

abbrev pub on_had : ClaimFrame → List ClaimFrame → Claim → {t : Symbol} → AfterSingle t → ClaimStep
on_had (claim_frame i o a n) H x v = on_single i o H (with_both a (with_nots n x)) v

abbrev pub if_room : Bool → ClaimStep → ClaimStep
if_room true n = n
if_room false n = stuck

abbrev pub on_sum : ClaimFrame → List ClaimFrame → Side → Sum → {t : Symbol} → AfterSingle t → ClaimStep
on_sum g H left s v = if_cmp v (λ r. on (sum_wanted g H (right r s))) stuck
on_sum g H (right r l) s v = on_had g H (comparison r l s) v

abbrev pub on_term : ClaimFrame → List ClaimFrame → Side → Sum → {t : Symbol} → AfterSingle t → ClaimStep
on_term g H h s v = if_sign v (λ d. if_room (nat_lt (terms s) 8) (on (term_wanted g H h (some s) d))) (on_sum g H h s v)

abbrev pub want_name : ClaimFrame → List ClaimFrame → {t : Symbol} → AtSingle t → ClaimStep
want_name g H single_Not = stuck
want_name g H single_LeftRound = stuck
want_name g H single_True = stuck
want_name g H single_Has = stuck
want_name g H (single_Additive x) = stuck
want_name g H (single_Number x) = stuck
want_name g H (single_FieldName x) = on (name_had g H x)
want_name g H (single_other x) = stuck

abbrev pub want_term : ClaimFrame → List ClaimFrame → Side → Option Sum → Sign → {t : Symbol} → AtSingle t → ClaimStep
want_term g H h a d single_Not = stuck
want_term g H h a d single_LeftRound = stuck
want_term g H h a d single_True = stuck
want_term g H h a d single_Has = stuck
want_term g H h a d (single_Additive x) = stuck
want_term g H h a d (single_Number x) = on (term_had g H h (with_sum a d (Constant x)))
want_term g H h a d (single_FieldName x) = on (term_named g H h a d x)
want_term g H h a d (single_other x) = stuck

abbrev pub want_sum : ClaimFrame → List ClaimFrame → Side → {t : Symbol} → AtSingle t → ClaimStep
want_sum g H h single_Not = stuck
want_sum g H h single_LeftRound = stuck
want_sum g H h single_True = stuck
want_sum g H h single_Has = stuck
want_sum g H h (single_Additive Plus) = stuck
want_sum g H h (single_Additive Minus) = on (term_wanted g H h none Minus)
want_sum g H h (single_Number x) = on (term_had g H h (first Plus (Constant x)))
want_sum g H h (single_FieldName x) = on (term_named g H h none Plus x)
want_sum g H h (single_other x) = stuck

abbrev pub want_single : ClaimFrame → List ClaimFrame → {t : Symbol} → AtSingle t → ClaimStep
want_single (claim_frame i o a n) H single_Not = on (single_wanted (claim_frame i o a (suc n)) H)
want_single g H single_LeftRound = on (single_wanted fresh (g ∷ H))
want_single g H single_True = on (single_had g H truth)
want_single g H single_Has = on (name_wanted g H)
want_single g H (single_Additive x) = want_sum g H left (single_Additive x)
want_single g H (single_Number x) = want_sum g H left (single_Number x)
want_single g H (single_FieldName x) = want_sum g H left (single_FieldName x)
want_single g H (single_other x) = stuck

abbrev pub claim_step : ClaimState → Symbol → ClaimStep
claim_step (single_wanted g H) t = want_single g H (at_single t)
claim_step (single_had g H x) t = on_had g H x (after_single t)
claim_step (name_wanted g H) t = want_name g H (at_single t)
claim_step (name_had g H k) t = if_quote (after_single t) (on (single_had g H (presence (Newest k)))) (on_had g H (presence (Plain k)) (after_single t))
claim_step (sum_wanted g H h) t = want_sum g H h (at_single t)
claim_step (term_wanted g H h a d) t = want_term g H h a d (at_single t)
claim_step (term_named g H h a d k) t = if_quote (after_single t) (on (term_had g H h (with_sum a d (Named (Newest k))))) (on_term g H h (with_sum a d (Named (Plain k))) (after_single t))
claim_step (term_had g H h s) t = on_term g H h s (after_single t)

abbrev pub claim_start : ClaimState
claim_start = single_wanted fresh []

-- a claim and what stands after its `]`, or the symbols from the first bad one on
pub data ClaimOut : Type 0 where
  claim_good : Claim → List Symbol → ClaimOut
  claim_bad : List Symbol → ClaimOut

abbrev pub claim_follow : ClaimStep → Symbol → List Symbol → (ClaimState → ClaimOut) → ClaimOut
claim_follow (on s) t ts k = k s
claim_follow (closed c) t ts k = claim_good c ts
claim_follow stuck t ts k = claim_bad (t ∷ ts)

abbrev pub claim_run : ClaimState → List Symbol → ClaimOut
claim_run s [] = claim_bad []
claim_run s (t ∷ ts) = claim_follow (claim_step s t) t ts (λ s'. claim_run s' ts)

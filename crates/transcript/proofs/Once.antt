-- An input has one text.
use Rattle.std.proofs.Common.{◌≡◌, ℕ, List, [], ◌∷◌, ℤ, refl, ap, ◌∙◌, subst, ap₂, arith}
use Rattle.grammar.specs.Numbers.{number_of, place_of}
use Rattle.grammar.specs.Tree.{Pattern}
use Rattle.grammar.specs.Cutting.{Placed}
use Rattle.grammar.specs.Reading.{Allowed}
use Rattle.grammar.proofs.Unique.{one_tree, never_both, one_refusal}
use Rattle.ledger.specs.Ledger.{carrying, ledger}
use Rattle.calendar.specs.Calendar.{reckoned}
use Rattle.script.specs.declared.output.Output.{Output}
use Rattle.script.specs.Output.{Wrote, Appended}
use Rattle.script.specs.Text.{rule_text}
use Rattle.script.proofs.Writing.{wrote_whole}
use Rattle.transcript.specs.Log.{log_text}
use Rattle.transcript.specs.Transcript.{Transcribed, too_long, first_refused, second_refused, logged, Printed, first_rule, second_rule, order_lines}

same_tree : (n m : ℤ) (text : List ℕ) (ts us : List Placed) (x y : Pattern) → Allowed n text ts x → Allowed m text us y → x ≡ y
same_tree n m text ts us x y a b = (one_tree text ts us x y a.within.cut a.derived b.within.cut b.derived).1

once : (input s t : List ℕ) → Transcribed input s → Transcribed input t → s ≡ t
once input _ _ (too_long h) (too_long k) = refl
once input _ _ (too_long h) (first_refused k e r) = absurd (omega arith)
once input _ _ (too_long h) (second_refused k ts x a e r) = absurd (omega arith)
once input _ _ (too_long h) (logged k ts x a us y b) = absurd (omega arith)
once input _ _ (first_refused h e r) (too_long k) = absurd (omega arith)
once input _ _ (first_refused h e r) (first_refused k f q) = ap (λ z. rule_text 1 (number_of z) (place_of z)) (one_refusal _ (first_rule input) e f r q)
once input _ _ (first_refused h e r) (second_refused k ts x a f q) = absurd (never_both _ (first_rule input) ts x e a r)
once input _ _ (first_refused h e r) (logged k ts x a us y b) = absurd (never_both _ (first_rule input) ts x e a r)
once input _ _ (second_refused h ts x a e r) (too_long k) = absurd (omega arith)
once input _ _ (second_refused h ts x a e r) (first_refused k f q) = absurd (never_both _ (first_rule input) ts x f a q)
once input _ _ (second_refused h ts x a e r) (second_refused k us y b f q) = ap (λ z. rule_text 2 (number_of z) (place_of z)) (one_refusal _ (second_rule input) e f r q)
once input _ _ (second_refused h ts x a e r) (logged k us y b vs z d) = absurd (never_both _ (second_rule input) vs z e d r)
once input _ _ (logged h ts x a us y b) (too_long k) = absurd (omega arith)
once input _ _ (logged h ts x a us y b) (first_refused k f q) = absurd (never_both _ (first_rule input) ts x f a q)
once input _ _ (logged h ts x a us y b) (second_refused k vs z d f q) = absurd (never_both _ (second_rule input) us y f b q)
once input _ _ (logged h ts x a us y b) (logged k ts₂ x₂ a₂ us₂ y₂ b₂) =
    ap₂ (λ p q. log_text (ledger (carrying 1 p ∷ carrying 2 q ∷ []) reckoned) (order_lines input))
    (same_tree _ _ (first_rule input) ts ts₂ x x₂ a a₂) (same_tree _ _ (second_rule input) us us₂ y y₂ b b₂)

-- the memory at the end, where a text for the input was written from its beginning on
pub printed : {input after : List ℕ} {old new : Output} (text : List ℕ) → Transcribed input text → Appended old text new → old.place ≡ 0 → after ≡ new.memory.now → Printed input old.memory.now after new.place
printed {input} {old = old} {new = new} text t appended start e =
    let wrote : Wrote old.memory.now 0 text new.memory.now new.place = subst (λ at. Wrote old.memory.now at text new.memory.now new.place) start appended.wrote in
    let whole = wrote_whole wrote in
    record { text = text; transcribed = t; only = λ other u. once input other text u t; memory = e ∙ whole.0; count = whole.1 }

-- Books that are alike answer every call alike.
use Rattle.std.proofs.Common.{◌≡◌, List, [], ◌∷◌, map, ℤ, Some, None, Ok, Option, sym, refl, ap, ◌∙◌, ap₂}
use Rattle.engine.specs.declared.orders.Order.{Order}
use Rattle.engine.specs.declared.orders.Call.{Call}
use Rattle.engine.specs.declared.orders.Call.TheVariants.{Give, Show, Would}
use Rattle.engine.specs.declared.answers.Refusal.{Refusal}
use Rattle.engine.specs.declared.answers.Reply.TheVariants.{ToGive, ToShow, ToWould}
use Rattle.engine.specs.Books.{Page, live, halted, Book, answer_on, refused_or, outcome, shown_on, takes}
use Rattle.engine.specs.Calls.{Alike, reply, book_after, replies, answer_aside, shown_aside, reply_aside, page_aside}

-- watch and rise of a page left aside first leave the answers the same, watch and rise aside
ordered_aside : (p : Page) (o : Order) (next : Page) → answer_aside (answer_on p o (outcome next)) ≡ answer_aside (answer_on (page_aside p) o (outcome (page_aside next)))
ordered_aside (halted f) o next = refl
ordered_aside (live v w) o next = by (w o) next where
  by : (r : Option Refusal) (next : Page) → answer_aside (refused_or r (outcome next)) ≡ answer_aside (refused_or r (outcome (page_aside next)))
  by (Some why) next = refl
  by None (live v w) = refl
  by None (halted f) = refl

foretold_aside : (p : Page) (o : Order) → answer_aside (answer_on p o (Ok tt)) ≡ answer_aside (answer_on (page_aside p) o (Ok tt))
foretold_aside (live v w) o = refl
foretold_aside (halted f) o = refl

show_aside : (p : Page) (c : ℤ) → shown_aside (shown_on p c) ≡ shown_aside (shown_on (page_aside p) c)
show_aside (live v w) c = refl
show_aside (halted f) c = refl

pub takes_aside : (p : Page) (o : Order) → takes p o ≡ takes (page_aside p) o
takes_aside (live v w) o = refl
takes_aside (halted f) o = refl

reply_alike : (b d : Book) → Alike b d → (c : Call) → reply_aside (reply b c) ≡ reply_aside (reply d c)
reply_alike b d same (Give o) =
    ap ToGive (ordered_aside (b []) o (b (o ∷ []))
    ∙ ap₂ (λ p q. answer_aside (answer_on p o (outcome q))) (same []) (same (o ∷ []))
    ∙ sym (ordered_aside (d []) o (d (o ∷ []))))
reply_alike b d same (Show c) = ap ToShow (show_aside (b []) c ∙ ap (λ p. shown_aside (shown_on p c)) (same []) ∙ sym (show_aside (d []) c))
reply_alike b d same (Would o) = ap ToWould (foretold_aside (b []) o ∙ ap (λ p. answer_aside (answer_on p o (Ok tt))) (same []) ∙ sym (foretold_aside (d []) o))

after_alike : (b d : Book) → Alike b d → (c : Call) → Alike (book_after b c) (book_after d c)
after_alike b d same (Give o) = λ os. same (o ∷ os)
after_alike b d same (Show c) = same
after_alike b d same (Would o) = same

pub replies_alike : (b d : Book) → Alike b d → (cs : List Call) → map reply_aside (replies b cs) ≡ map reply_aside (replies d cs)
replies_alike b d same [] = refl
replies_alike b d same (c ∷ cs) =
    ap₂ (λ r rs. r ∷ rs) (reply_alike b d same c) (replies_alike (book_after b c) (book_after d c) (after_alike b d same c) cs)

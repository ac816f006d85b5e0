-- The book of an engine that never halts by itself: states, what a state shows, and where an order leads from it.
use Rattle.std.specs.Prelude.{◌≡◌, ℕ, ◌+◌, Bool, true, false, cond, ◌&&◌, List, [], ◌∷◌, ◌++◌, ℤ, pos, negsuc, Some, None, Ok, Err, Option, Result, int_le, nat_le, refl}
use Rattle.std.proofs.Common.{sym, ap, ◌∙◌, arith}
use Rattle.engine.specs.declared.Values.{Values}
use Rattle.engine.specs.declared.orders.Order.{Order}
use Rattle.engine.specs.declared.answers.Refusal.{Refusal}
use Rattle.engine.specs.declared.answers.Refusal.TheVariants.{Argument, Past}
use Rattle.engine.specs.declared.answers.OrderError.TheVariants.{Refused}
use Rattle.engine.specs.Values.{in_range, value_of, value_in_range, values_in_range}
use Rattle.engine.specs.Answers.{Answer}
use Rattle.engine.specs.Books.{Page, live, Book, Lawful, answer, refused_or}

-- what a state shows, and where an order leads from it or why it is refused
pub record Mechanism (S : Type 0) : Type 0 where
  pub shows : S → Values
  pub leads : S → Order → Result S Refusal

-- the state that an order leads to; the same state if it is refused
abbrev pub landed : {S : Type 0} → S → Result S Refusal → S
landed s (Ok t) = t
landed s (Err why) = s

abbrev pub why_not : {S : Type 0} → Result S Refusal → Option Refusal
why_not (Ok t) = None
why_not (Err why) = Some why

abbrev pub answered : {S : Type 0} → Result S Refusal → Answer
answered (Ok t) = Ok tt
answered (Err why) = Err (Refused why)

abbrev pub reached : {S : Type 0} → Mechanism S → S → List Order → S
reached m s [] = s
reached m s (o ∷ os) = reached m (landed s (m.leads s o)) os

abbrev pub page_at : {S : Type 0} → Mechanism S → S → Page
page_at m s = live (m.shows s) (λ o. why_not (m.leads s o))

-- the book from a state on
abbrev pub book_from : {S : Type 0} → Mechanism S → S → Book
book_from m s = λ os. page_at m (reached m s os)

-- The places 1, 2, .. of an engine, which go up to a last one. An argument is tried first, then where it leads.
-- Open takes 1 to `count`; skip takes 1 to 400 and goes that many on, and turn goes one on.
abbrev natural : ℤ → ℕ
natural (pos n) = n
natural (negsuc n) = 0

abbrev between : ℕ → ℤ → ℕ → Bool
between low z high = int_le (pos low) z && int_le z (pos high)

abbrev pub opening : ℕ → ℤ → Result ℕ Refusal
opening count a = cond (between 1 a count) (Ok (natural a)) (Err Argument)

abbrev pub up_to : ℕ → ℕ → Result ℕ Refusal
up_to last place = cond (nat_le place last) (Ok place) (Err Past)

abbrev pub onward : ℕ → ℕ → ℤ → Result ℕ Refusal
onward last place a = cond (between 1 a 400) (up_to last (place + natural a)) (Err Argument)

-- numbers become values in range
pub value_ranged : (z : ℤ) → value_in_range (value_of z) ≡ true
value_ranged z = by (in_range z) refl where
  by : (k : Bool) → in_range z ≡ k → value_in_range (cond k (Some z) None) ≡ true
  by true e = e
  by false e = refl

module _ {S : Type 0} (m : Mechanism S) where
  -- an order is answered by where it leads
  pub mechanism_answers : (s : S) (o : Order) → answer (book_from m s) o ≡ answered (m.leads s o)
  mechanism_answers s o = by (m.leads s o) where
    by : (r : Result S Refusal) → refused_or (why_not r) (Ok tt) ≡ answered r
    by (Ok t) = refl
    by (Err why) = refl

  pub reached_append : (s : S) (os more : List Order) → reached m s (os ++ more) ≡ reached m (reached m s os) more
  reached_append s [] more = refl
  reached_append s (o ∷ os) more = reached_append (landed s (m.leads s o)) os more

  stays : (s : S) (r : Result S Refusal) (why : Refusal) → why_not r ≡ Some why → landed s r ≡ s
  stays s (Ok t) why e = absurd (let z : ◌≡◌ {A = ℕ} 0 1 = cc in omega arith)
  stays s (Err x) why e = refl

  pub mechanism_lawful : ((s : S) → values_in_range (m.shows s) ≡ true) → (s : S) → Lawful (book_from m s)
  mechanism_lawful ranged s = record {
    halts = λ os f more e. absurd (let z : ◌≡◌ {A = ℕ} 0 1 = cc in omega arith);
    refuses = λ os o more why e.
        ap (page_at m) (reached_append s os (o ∷ more)
        ∙ ap (λ (t : S). reached m t more) (stays (reached m s os) (m.leads (reached m s os) o) why e)
        ∙ sym (reached_append s os more));
    ranged = λ os. ranged (reached m s os);
  }

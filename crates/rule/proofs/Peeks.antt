-- What comes next at an index of the tokens, by the tag that stands there.
use Rattle.std.proofs.Common.{◌≡◌, ℕ, zero, suc, ◌<◌, List, [], ◌∷◌, length, drop, Some, None, sym, refl, ap, ◌∙◌, add-one, arith}
use Rattle.grammar.specs.declared.Tag.{Tag}
use Rattle.grammar.specs.Symbol.{Symbol, LeftSquare, RightSquare, LeftRound, RightRound, Bar, Dot, Star, Underscore, Quote, Arrow, And, Or, Not, Has, True, Additive, Relational, Number, FieldName, tag}
use Rattle.rule.specs.Spots.{symbol, next_tag}
use Rattle.rule.specs.Readers.{Lacks, LacksAll, Next}
use Rattle.rule.proofs.Spotted.{tag_symbol}

no_cons : {s : Symbol} {l : List Symbol} → [] ≡ s ∷ l → ⊥
no_cons e = let z : ◌≡◌ {A = ℕ} 0 1 = cc in omega arith

drop_is : (p : ℕ) (ts : List Symbol) (s : Symbol) (l : List Symbol) → drop p ts ≡ s ∷ l → (p < length ts) × (l ≡ drop (suc p) ts)
drop_is zero [] s l e = absurd (no_cons e)
drop_is zero (x ∷ ts) s l e = (omega arith, (cc))
drop_is (suc p) [] s l e = absurd (no_cons e)
drop_is (suc p) (x ∷ ts) s l e = let h = drop_is p ts s l e in (omega (arith, h.0), h.1)

pub stands : (ts : List Symbol) (p : ℕ) (s : Symbol) (l : List Symbol) → drop p ts ≡ s ∷ l → Next ts p s
stands ts p s l e = let h = drop_is p ts s l e in record { within = h.0; here = rw (add-one p) (e ∙ ap (λ (m : List Symbol). s ∷ m) h.1) }

-- all that is known of a symbol by its tag: the symbol itself, unless it is a number
abbrev value : Symbol → ℕ
value LeftSquare = 0
value RightSquare = 0
value LeftRound = 0
value RightRound = 0
value Bar = 0
value Dot = 0
value Star = 0
value Underscore = 0
value Quote = 0
value Arrow = 0
value And = 0
value Or = 0
value Not = 0
value Has = 0
value True = 0
value (Additive x) = 0
value (Relational x) = 0
value (Number x) = x
value (FieldName x) = 0

symbol_tag : (s : Symbol) → symbol (tag s) (value s) ≡ s
symbol_tag LeftSquare = refl
symbol_tag RightSquare = refl
symbol_tag LeftRound = refl
symbol_tag RightRound = refl
symbol_tag Bar = refl
symbol_tag Dot = refl
symbol_tag Star = refl
symbol_tag Underscore = refl
symbol_tag Quote = refl
symbol_tag Arrow = refl
symbol_tag And = refl
symbol_tag Or = refl
symbol_tag Not = refl
symbol_tag Has = refl
symbol_tag True = refl
symbol_tag (Additive x) = refl
symbol_tag (Relational x) = refl
symbol_tag (Number x) = refl
symbol_tag (FieldName x) = refl

no_some : {k : Tag} → Some k ≡ None → ⊥
no_some e = let z : ◌≡◌ {A = ℕ} 0 1 = cc in omega arith

some_is : {j k : Tag} → Some j ≡ Some k → j ≡ k
some_is e = cc

-- the symbol with a tag
pub of_tag : (s : Symbol) (k : Tag) → Some k ≡ Some (tag s) → s ≡ symbol k (value s)
of_tag s k e = sym (symbol_tag s) ∙ ap (λ j. symbol j (value s)) (sym (some_is e))

pub at_tag : (ts : List Symbol) (p : ℕ) (k : Tag) → Some k ≡ next_tag (drop p ts) → (n : ℕ) × Next ts p (symbol k n)
at_tag ts p k e = by_list (drop p ts) refl e
  where
    by_list : (l : List Symbol) → drop p ts ≡ l → Some k ≡ next_tag l → (n : ℕ) × Next ts p (symbol k n)
    by_list [] q e = absurd (no_some e)
    by_list (t ∷ l) q e = (value t, stands ts p (symbol k (value t)) l (q ∙ ap (λ x. x ∷ l) (of_tag t k e)))

-- no symbol with the tag k comes next
pub not_tag : (l : List Symbol) (k : Tag) → (next_tag l ≡ Some k → ⊥) → (n : ℕ) → Lacks (symbol k n) l
not_tag [] k h n = tt
not_tag (t ∷ l) k h n = λ e. h (ap Some (ap tag e ∙ tag_symbol k n))

pub lacks_all : {X : Type 0} (f : X → Symbol) (l : List Symbol) → ((x : X) → Lacks (f x) l) → LacksAll f l
lacks_all f [] h = tt
lacks_all f (t ∷ l) h = h

-- The derived comparison of tags holds of equal tags alone.
use Rattle.std.proofs.Common.{◌≡◌, Bool, true, false, List, [], ◌∷◌, refl, sym, ap, ◌∙◌, ℕ, arith, Option, Some, None}
use Rattle.std.specs.Option.{option_eq}
use mathlib.Core.Logic.{inl, inr}
use denote.Enum.Compared.{Each, by}
use denote.Enum.Declared.{Record, Declared, Choice, values_one}
use denote.Enum.Bare.{Bare, sameb, same_true, true_same}
use denote.Struct.Field.{Field as Part}
use Rattle.grammar.specs.declared.Tag.{Tag}
use Rattle.grammar.specs.contracts.Tag.{enum}
use Rattle.grammar.specs.contracts.Sign
use Rattle.grammar.specs.contracts.Relation
use Rattle.grammar.specs.contracts.Field
use Rattle.grammar.specs.contracts.TagPartialEq.TheImpl.{eq-value}

-- a comparison that holds of equal values, and of no others
record Exact {A : Type 0} (eq : A → A → Bool) : Type 0 where
  pub equal : (x y : A) → eq x y ≡ true → x ≡ y
  pub own : (x : A) → eq x x ≡ true

abbrev AllExact : (Fss : List (List Part)) → Each Bool Fss → Type 0
AllExact [] each = Unit {0}
AllExact (Fs ∷ Fss) each = Exact each.0 × AllExact Fss each.1

unlike : {A : Type 0} → false ≡ true → A
unlike e = let z : ◌≡◌ {A = ℕ} 0 1 = cc in absurd (omega arith)

equal_choice : (Fss : List (List Part)) (each : Each Bool Fss) → AllExact Fss each → (c d : Choice Fss) → by false false Fss each c d ≡ true → c ≡ d
equal_choice [] each s c d e = absurd c
equal_choice (Fs ∷ Fss) each s (inl x) (inl y) e = ap inl (s.0.equal x y e)
equal_choice (Fs ∷ Fss) each s (inl x) (inr y) e = unlike e
equal_choice (Fs ∷ Fss) each s (inr x) (inl y) e = unlike e
equal_choice (Fs ∷ Fss) each s (inr x) (inr y) e = ap inr (equal_choice Fss each.1 s.1 x y e)

own_choice : (Fss : List (List Part)) (each : Each Bool Fss) → AllExact Fss each → (c : Choice Fss) → by false false Fss each c c ≡ true
own_choice [] each s c = absurd c
own_choice (Fs ∷ Fss) each s (inl x) = s.0.own x
own_choice (Fs ∷ Fss) each s (inr x) = own_choice Fss each.1 s.1 x

-- the comparisons of the last variants of an enum
record Variants (Fss : List (List Part)) : Type 0 where
  pub each : Each Bool Fss
  pub exact : AllExact Fss each

abbrev end : Variants []
end = record { each = tt; exact = tt }

-- and of one more, without fields or with one
abbrev bare : {Fss : List (List Part)} → Variants Fss → Variants ([] ∷ Fss)
bare v = record { each = ((λ x y. true), v.each); exact = (record { equal = λ x y e. refl; own = λ x. refl }, v.exact) }

abbrev with_field : {Fss : List (List Part)} (F : Part) {eq : F.Value → F.Value → Bool} → Exact eq → Variants Fss → Variants ((F ∷ []) ∷ Fss)
with_field F {eq = eq} s v = record {
  each = ((λ x y. eq x.0 y.0), v.each);
  exact = (record { equal = λ x y e. ap (λ z. (z, tt)) (s.equal x.0 y.0 e); own = λ x. s.own x.0 }, v.exact);
}

derived : (N : Record) (v : Variants N.parts) → Exact (λ x y. by false false N.parts v.each (N.as_values x) (N.as_values y))
derived N v = record {
  equal = λ x y e. values_one N x y (equal_choice N.parts v.each v.exact (N.as_values x) (N.as_values y) e);
  own = λ x. own_choice N.parts v.each v.exact (N.as_values x);
}

-- an enum whose variants have no fields
fieldless : (D : Declared) → Bare D.parts → Exact (sameb D)
fieldless D b = record { equal = same_true D b; own = λ x. true_same D x x refl }

exact_tag : Exact eq-value.it
exact_tag =
    let last = bare (with_field Field.the_field (fieldless Field.the_type tt) end) in
    let valued = with_field Sign.the_field (fieldless Sign.the_type tt) (with_field Relation.the_field (fieldless Relation.the_type tt) last) in
    derived enum (bare (bare (bare (bare (bare (bare (bare (bare (bare (bare (bare (bare (bare (bare (bare valued)))))))))))))))

-- what `==` says of the next tag
pub is_some : (o : Option Tag) (k : Tag) → true ≡ option_eq eq-value.it o (Some k) → o ≡ Some k
is_some None k e = unlike (sym e)
is_some (Some j) k e = ap Some (exact_tag.equal j k (sym e))

pub is_other : (o : Option Tag) (k : Tag) → false ≡ option_eq eq-value.it o (Some k) → o ≡ Some k → ⊥
is_other o k e h = unlike (e ∙ ap (λ p. option_eq eq-value.it p (Some k)) h ∙ exact_tag.own k)

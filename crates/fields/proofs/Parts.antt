-- Bytes parted at an index.
use Rattle.std.proofs.Common.{◌≡◌, ℕ, zero, suc, ◌-◌, ◌<◌, List, [], ◌∷◌, ◌++◌, length, get_or, take, drop, sym, refl, ap, ◌∙◌, arith, length-drop, take_all}
use Rattle.fields.specs.Fields.{Ended, by_mark, by_end}

empty : (bytes : List ℕ) → length bytes ≡ 0 → bytes ≡ []
empty [] h = refl
empty (b ∷ bs) h = absurd (omega arith)

parted : (bytes : List ℕ) (i mark : ℕ) → i < length bytes → get_or bytes i 0 ≡ mark → bytes ≡ take i bytes ++ (mark ∷ take (length (drop i bytes) - 1) (drop 1 (drop i bytes)))
parted [] i mark h e = absurd (omega arith)
parted (b ∷ bs) zero mark h e = ap (λ x. x ∷ bs) e ∙ ap (λ r. mark ∷ r) (sym (take_all (suc (length bs) - 1) bs (omega arith)))
parted (b ∷ bs) (suc i) mark h e = ap (λ r. b ∷ r) (parted bs i mark (omega arith) e)

module _ (bytes line rest : List ℕ) (i : ℕ) (before : line ≡ take i bytes) (after : rest ≡ drop i bytes) where
  pub at_mark : i < length bytes → get_or bytes i 0 ≡ 10 → Ended bytes line (take (length rest - 1) (drop 1 rest))
  at_mark h e = by_mark (parted bytes i 10 h e ∙ (λ k. sym before k ++ (10 ∷ take (length (sym after k) - 1) (drop 1 (sym after k)))))

  pub at_end : 0 < length bytes → length rest ≡ 0 → Ended bytes line rest
  at_end some none = by_end some (sym (before ∙ take_all i bytes (omega (arith, length-drop i bytes, ap length after)))) (empty rest none)

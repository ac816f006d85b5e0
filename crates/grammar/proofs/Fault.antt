-- The place of a fault: the tokens before it can go on to a rule, and with the token there they cannot.
use Rattle.std.proofs.Common.{◌≡◌, ℕ, suc, ◌+◌, ◌-◌, ◌<◌, List, [], ◌∷◌, ◌++◌, length, take, sym, refl, ap, ◌∙◌, subst, append_assoc, add-one, arith, length-append}
use Rattle.grammar.specs.Symbol.{Symbol, RightRound, Underscore}
use Rattle.grammar.specs.Tree.{Pattern, empty, claim}
use Rattle.grammar.specs.Machine.{Frame, frame, with_chain, with_rule, State, want, have, inside, Next, stop, go, step, good, bad, at_end, follow, run, start}
use Rattle.grammar.specs.Viable.{Viable, FirstBad}
use Rattle.grammar.proofs.ClaimEnds.{claim_end}
use Rattle.grammar.proofs.Complete.{inside_runs, then_have, run_complete}
use Rattle.grammar.proofs.Sound.{run_rule}

-- a state that can be completed
abbrev Ends : State → Type 0
Ends s = (us : List Symbol) × (x : Pattern) × (run s us ≡ good x)

have_ends : (f : Frame) (K : List Frame) (x : Pattern) → Ends (have f K x)
have_ends (frame r c) [] x = ([], with_rule r (with_chain c x), refl)
have_ends (frame r c) (g ∷ K) x =
    let e = have_ends g K (with_rule r (with_chain c x)) in
    (RightRound ∷ e.0, e.1, e.2)

ends : (s : State) → Ends s
ends (want f K) = let e = have_ends f K empty in (Underscore ∷ e.0, e.1, e.2)
ends (have f K x) = have_ends f K x
ends (inside f K s) =
    let c = claim_end s in
    let e = have_ends f K (claim c.1) in
    (c.0 ++ e.0, e.1, inside_runs f K s (c.0 ++ e.0) ∙ ap (then_have f K) (c.2 e.0) ∙ e.2)

-- the tokens up to the fault can go on, and with the one there they cannot
data Broken (s : State) (rest : List Symbol) : List Symbol → Type 0 where
  broken : (pre : List Symbol)
      → ((us : List Symbol) × (x : Pattern) × (run s (pre ++ us) ≡ good x))
      → ((t : Symbol) (more : List Symbol) → rest ≡ t ∷ more → (us : List Symbol) (x : Pattern) → run s (pre ++ (t ∷ us)) ≡ good x → ⊥)
      → Broken s rest (pre ++ rest)

stepped : (s : State) (t : Symbol) (n : Next) → step s t ≡ n → (l : List Symbol) → run s (t ∷ l) ≡ follow n t l (λ s'. run s' l)
stepped s t n p l = ap (λ (m : Next). follow m t l (λ s'. run s' l)) p

good_bad : {ts : List Symbol} {x : Pattern} → good x ≡ bad ts → ⊥
good_bad e = let z : ◌≡◌ {A = ℕ} 0 1 = cc in omega arith

nil_cons : {t : Symbol} {ts : List Symbol} → [] ≡ t ∷ ts → ⊥
nil_cons e = let z : ◌≡◌ {A = ℕ} 0 1 = cc in omega arith

end_rest : (s : State) (rest : List Symbol) → at_end s ≡ bad rest → [] ≡ rest
end_rest (want f K) rest e = cc
end_rest (have (frame r c) [] x) rest e = absurd (good_bad e)
end_rest (have (frame r c) (g ∷ K) x) rest e = cc
end_rest (inside f K s) rest e = cc

further : {s s' : State} {t : Symbol} {rest ts : List Symbol} → step s t ≡ go s' → Broken s' rest ts → Broken s rest (t ∷ ts)
further {s} {s'} {t} p (broken pre e n) =
    broken (t ∷ pre)
    (e.0, e.1, stepped s t (go s') p (pre ++ e.0) ∙ e.2)
    (λ u more q us x g. n u more q us x (sym (stepped s t (go s') p (pre ++ (u ∷ us))) ∙ g))

broken_at : (ts rest : List Symbol) (s : State) → run s ts ≡ bad rest → Broken s rest ts
broken_at [] rest s e = subst (λ (l : List Symbol). Broken s l []) (end_rest s rest e) (broken [] (ends s) (λ t more q. absurd (nil_cons q)))
broken_at (t ∷ ts) rest s e = by_next (step s t) refl (λ s'. broken_at ts rest s') e
  where
    by_next : (n : Next) → step s t ≡ n → ((s' : State) → run s' ts ≡ bad rest → Broken s' rest ts) → follow n t ts (λ s'. run s' ts) ≡ bad rest → Broken s rest (t ∷ ts)
    by_next stop p ih e =
        let q : t ∷ ts ≡ rest = cc in
        subst (λ (l : List Symbol). Broken s l (t ∷ ts)) q
        (broken [] (ends s) (λ u more q us x g. let v : t ≡ u = cc in good_bad (sym g ∙ ap (λ (w : Symbol). run s (w ∷ us)) (sym v) ∙ stepped s t stop p us)))
    by_next (go s') p ih e = further p (ih s' e)

take_pre : (pre rest : List Symbol) → take (length pre) (pre ++ rest) ≡ pre
take_pre [] rest = refl
take_pre (t ∷ pre) rest = ap (λ (l : List Symbol). t ∷ l) (take_pre pre rest)

take_one : (pre : List Symbol) (t : Symbol) (more : List Symbol) → take (suc (length pre)) (pre ++ (t ∷ more)) ≡ pre ++ (t ∷ [])
take_one [] t more = refl
take_one (u ∷ pre) t more = ap (λ (l : List Symbol). u ∷ l) (take_one pre t more)

module _ (pre : List Symbol) where
  not_here : (rest : List Symbol)
      → ((t : Symbol) (more : List Symbol) → rest ≡ t ∷ more → (us : List Symbol) (x : Pattern) → run start (pre ++ (t ∷ us)) ≡ good x → ⊥)
      → length pre < length (pre ++ rest) → Viable (take (length pre + 1) (pre ++ rest)) → ⊥
  not_here [] n h v = omega (arith, length-append pre [])
  not_here (t ∷ more) n h v =
      let w : Viable (pre ++ (t ∷ [])) = subst Viable (take_one pre t more) (subst (λ (k : ℕ). Viable (take k (pre ++ (t ∷ more)))) (add-one (length pre)) v) in
      n t more refl w.0 w.1 (ap (run start) (sym (append_assoc pre (t ∷ []) w.0)) ∙ run_complete w.2)

broken_first : {ts : List Symbol} (rest : List Symbol) → run start ts ≡ bad rest → Broken start rest ts → FirstBad ts (length ts - length rest)
broken_first rest r (broken pre e n) =
    let p : length pre ≡ length (pre ++ rest) - length rest = omega (arith, length-append pre rest) in
    subst (FirstBad (pre ++ rest)) p
    (record {
      within = omega (arith, length-append pre rest);
      before = subst Viable (sym (take_pre pre rest)) (e.0, e.1, run_rule (pre ++ e.0) e.1 e.2);
      here = not_here pre rest n;
      none = λ x d. good_bad (sym (run_complete d) ∙ r);
    })

-- where the machine stops stands the first bad symbol
pub first_bad : (ts rest : List Symbol) → run start ts ≡ bad rest → FirstBad ts (length ts - length rest)
first_bad ts rest e = broken_first rest e (broken_at ts rest start e)

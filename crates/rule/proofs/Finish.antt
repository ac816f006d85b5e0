-- From the stored tokens to the text's: why a text is refused, or what is held of it.
use Rattle.std.proofs.Common.{◌≡◌, ℕ, ◌<◌, ◌≤◌, min, List, [], ◌∷◌, length, get_or, ℤ, pos, ◌≤ℤ◌, Ok, Err, Result, sym, refl, ap, ◌∙◌, subst, arith, leb→le, length-take, take_all, get_or-take}
use Rattle.std.proofs.lemmas.List.{get_or_default}
use Rattle.grammar.specs.declared.Refusal.{Refusal}
use Rattle.grammar.specs.declared.Refusal.TheVariants.{WatchNumber, TextTooLong, TooManyTokens, TooDeep, TooManyClaims, Unexpected}
use Rattle.grammar.specs.Symbol.{Symbol}
use Rattle.grammar.specs.Patterns.{Rule}
use Rattle.grammar.specs.Viable.{FirstBad}
use Rattle.grammar.specs.Cutting.{Placed, symbols, places, place_at}
use Rattle.grammar.specs.Limits.{text_limit, token_limit, claim_limit, claiming, count, FirstDeep, Shallow, Crowding}
use Rattle.grammar.specs.Reading.{Numbered, Within, Refused, misnumbered, too_long, no_token, too_many, too_deep, too_crowded, unexpected}
use Rattle.grammar.proofs.Unique.{one_tree, never_both, one_refusal}
use Rattle.rule.specs.declared.rule.Rule.{Rule as Place}
use Rattle.rule.specs.declared.tokens.Tokens.{Tokens}
use Rattle.rule.specs.Stored.{symbols_of, place_in, Stores, Stops, Caused}
use Rattle.rule.specs.Held.{rule_tree, Holds, Parsed}
use Rattle.rule.specs.Finished.{RuleOf}

symbols_length : (ts : List Placed) → length (symbols ts) ≡ length ts
symbols_length [] = refl
symbols_length (t ∷ ts) = omega (arith, symbols_length ts)

places_length : (ts : List Placed) → length (places ts) ≡ length ts
places_length [] = refl
places_length (t ∷ ts) = omega (arith, places_length ts)

module _ {text : List ℕ} {t : Tokens} (s : Stores text t) where
  stored_length : length (symbols_of t) ≡ min 501 (length s.all)
  stored_length = ap length s.symbols ∙ length-take 501 (symbols s.all) ∙ ap (min 501) (symbols_length s.all)

  over_is : token_limit < length (symbols_of t) → token_limit < length s.all
  over_is h = omega (arith, stored_length)

  over_place : token_limit < length (symbols_of t) → place_in t token_limit ≡ place_at text s.all token_limit
  over_place h =
      ap (λ l. get_or l token_limit (length t.text.now)) s.places
      ∙ get_or-take 501 (places s.all) token_limit _ (omega arith)
      ∙ get_or_default (places s.all) token_limit _ _ (omega (arith, over_is h, places_length s.all))

  module _ (h : length (symbols_of t) ≤ token_limit) where
    few_is : length s.all ≤ token_limit
    few_is = omega (arith, stored_length)

    pub symbols_are : symbols_of t ≡ symbols s.all
    symbols_are = s.symbols ∙ take_all 501 (symbols s.all) (omega (arith, few_is, symbols_length s.all))

    place_is : (k : ℕ) → place_in t k ≡ place_at text s.all k
    place_is k =
        ap (λ l. get_or l k (length t.text.now)) (s.places ∙ take_all 501 (places s.all) (omega (arith, few_is, places_length s.all)))
        ∙ ap (λ l. get_or (places s.all) k (length l)) s.own

    -- a cause found among the stored tokens is one among the text's
    caused : {n : ℤ} {e : Refusal} (At : List Symbol → ℕ → Type 0) (cause : ℕ → Refusal) → ((k : ℕ) → At (symbols s.all) k → Refused n text (cause (place_at text s.all k)))
        → Caused cause t (At (symbols_of t)) e → Refused n text e
    caused {n} At cause f c =
        subst (Refused n text) (sym (c.is ∙ ap cause (place_is c.index))) (f c.index (subst (λ l. At l c.index) symbols_are c.holds))

-- a watch number as a natural number
pub numbered_within : {n : ℤ} (w : ℕ) → pos w ≡ n → Numbered n → (1 ≤ w) × (w ≤ 65535)
numbered_within w e h =
    let low : pos 1 ≤ℤ pos w = subst (λ z. pos 1 ≤ℤ z) (sym e) h.least in
    let high : pos w ≤ℤ pos 65535 = subst (λ z. z ≤ℤ pos 65535) (sym e) h.most in
    (leb→le 1 w low.le, leb→le w 65535 high.le)

module _ {n : ℤ} {text : List ℕ} where
  pub watch_refused : {e : Refusal} → e ≡ WatchNumber → (Numbered n → ⊥) → Refused n text e
  watch_refused e h = subst (Refused n text) (sym e) (misnumbered h)

  module _ (w : Numbered n) where
    pub long_refused : {e : Refusal} → e ≡ TextTooLong → text_limit < length text → Refused n text e
    long_refused e h = subst (Refused n text) (sym e) (too_long w h)

    module _ (l : length text ≤ text_limit) where
      pub cut_refused : {e : Refusal} → Stops text e → Refused n text e
      cut_refused s = subst (Refused n text) (sym s.is) (no_token w l s.uncut)

      module _ {t : Tokens} (s : Stores text t) where
        pub many_refused : {e : Refusal} → e ≡ TooManyTokens (place_in t token_limit) → token_limit < length (symbols_of t) → Refused n text e
        many_refused e h = subst (Refused n text) (sym (e ∙ ap TooManyTokens (over_place s h))) (too_many w l s.cut (over_is s h))

        module _ (f : length (symbols_of t) ≤ token_limit) where
          pub deep_refused : {e : Refusal} → Caused TooDeep t (FirstDeep (symbols_of t)) e → Refused n text e
          deep_refused = caused s f FirstDeep TooDeep (λ k d. too_deep w l s.cut (few_is s f) d)

          module _ (d : Shallow (symbols_of t)) where
            shallow_is : Shallow (symbols s.all)
            shallow_is = subst Shallow (symbols_are s f) d

            pub crowd_refused : {e : Refusal} → Caused TooManyClaims t (Crowding (symbols_of t)) e → Refused n text e
            crowd_refused = caused s f Crowding TooManyClaims (λ k c. too_crowded w l s.cut (few_is s f) shallow_is c)

            module _ (c : count claiming (symbols_of t) ≤ claim_limit) where
              within_is : Within text s.all
              within_is = record { short = l; cut = s.cut; few = few_is s f; shallow = shallow_is; uncrowded = subst (λ ts. count claiming ts ≤ claim_limit) (symbols_are s f) c }

              pub bad_refused : {e : Refusal} → Caused Unexpected t (FirstBad (symbols_of t)) e → Refused n text e
              bad_refused = caused s f FirstBad Unexpected (λ k b. unexpected w within_is b)

              pub held : (u : Place) → Rule (symbols_of t) (rule_tree u) → pos u.watch ≡ n → u.tokens ≡ length (symbols_of t) → Holds n text u
              held u r e k = record {
                placed = s.all;
                allowed = record { numbered = w; within = within_is; derived = subst (λ ts. Rule ts (rule_tree u)) (symbols_are s f) r };
                watch = e;
                count = k ∙ ap length (symbols_are s f) ∙ symbols_length s.all;
              }

  -- what reading answers is all that it can answer
  pub read_parsed : (u : Place) → Holds n text u → Parsed n text (Ok u)
  read_parsed u h = (
    h,
    λ ts x a. let same = one_tree text h.placed ts (rule_tree u) x h.allowed.within.cut h.allowed.derived a.within.cut a.derived in
        (refl, same.1, h.count ∙ ap length same.0),
    λ e q. absurd (never_both n text h.placed (rule_tree u) e h.allowed q),
  )

  pub refused_parsed : (e : Refusal) → Refused n text e → Parsed n text (Err e)
  refused_parsed e q = (q, λ u ts x a. absurd (never_both n text ts x e a q), λ f p. ap Err (one_refusal n text e f q p))

  -- what is made of the tokens is what parsing makes of the text
  module _ (w : Numbered n) (l : length text ≤ text_limit) {t : Tokens} (s : Stores text t) (f : length (symbols_of t) ≤ token_limit)
      (d : Shallow (symbols_of t)) (c : count claiming (symbols_of t) ≤ claim_limit) where
    pub made_parsed : (r : Result Place Refusal) (k : ℕ) → pos k ≡ n → RuleOf k t r → Parsed n text r
    made_parsed (Ok u) k e h = read_parsed u (held w l s f d c u h.2.derived (ap pos h.0 ∙ e) h.1)
    made_parsed (Err x) k e h = refused_parsed x (bad_refused w l s f d c h)

-- What one turn of `Tokens::cut` keeps.
use Rattle.std.proofs.Common.{◌≡◌, ℕ, zero, suc, List, [], ◌∷◌, ◌++◌, map, take, drop, sym, refl, ap, ◌∙◌, subst, append-nil}
use Rattle.std.proofs.lemmas.List.{map_push, take-map}
use Rattle.grammar.specs.declared.Refusal.{Refusal}
use Rattle.grammar.specs.declared.Tag.{Tag}
use Rattle.grammar.specs.Cutting.{Placed, placed, symbols, places, Cut}
use Rattle.rule.specs.declared.cutter.Cutter.{Cutter}
use Rattle.rule.specs.declared.tokens.Tokens.{Tokens}
use Rattle.rule.specs.Scanning.{Scanned, scanned}
use Rattle.rule.specs.Spots.{spot, symbol_at, symbols_at, places_at}
use Rattle.rule.specs.Stored.{spots_of, Stores, Stops}
use Rattle.rule.proofs.Scans.{Leads, stays, on, Fails, Next, Found, found}

-- the tokens up to where the cutter stands are in the table, as many as there is room for
pub record Sofar (text : List ℕ) (k : Cutter) (t : Tokens) : Type 0 where
  pub same : k.text.now ≡ text
  pub own : t.text.now ≡ text
  pub all : List Placed
  pub leads : Leads 0 text k.at (drop k.at text) all
  pub symbols : symbols_at text (spots_of t) ≡ take 501 (symbols all)
  pub places : places_at (spots_of t) ≡ take 501 (places all)

pub begun : {text : List ℕ} {k : Cutter} {t : Tokens} → k.text.now ≡ text → k.at ≡ 0 → t.text.now ≡ text → spots_of t ≡ [] → Sofar text k t
begun {text} same at own none = record {
  same = same;
  own = own;
  all = [];
  leads = subst (λ n. Leads 0 text n (drop n text) []) (sym at) stays;
  symbols = ap (symbols_at text) none;
  places = ap places_at none;
}

symbols_push : (ts : List Placed) (t : Placed) → symbols (ts ++ t ∷ []) ≡ symbols ts ++ t.symbol ∷ []
symbols_push [] t = refl
symbols_push (u ∷ ts) t = ap (λ l. u.symbol ∷ l) (symbols_push ts t)

places_push : (ts : List Placed) (t : Placed) → places (ts ++ t ∷ []) ≡ places ts ++ t.place ∷ []
places_push [] t = refl
places_push (u ∷ ts) t = ap (λ l. u.place ∷ l) (places_push ts t)

take_push : {X : Type 0} (n : ℕ) (xs ys : List X) → take n (take n xs ++ ys) ≡ take n (xs ++ ys)
take_push zero xs ys = refl
take_push (suc n) [] ys = refl
take_push (suc n) (x ∷ xs) ys = ap (λ l. x ∷ l) (take_push n xs ys)

-- a table with room for n that holds what a list has, each as f gives it, takes one more
more : {X Y : Type 0} (f : X → Y) (n : ℕ) (xs : List X) (x : X) (ys : List Y) (y : Y) → map f xs ≡ take n ys → f x ≡ y → map f (take n (xs ++ x ∷ [])) ≡ take n (ys ++ y ∷ [])
more f n xs x ys y e h =
    sym (take-map f n (xs ++ x ∷ [])) ∙ ap (take n) (map_push f xs x ∙ (λ i. e i ++ h i ∷ [])) ∙ take_push n ys (y ∷ [])

module _ {text : List ℕ} {k : Cutter} {t : Tokens} (s : Sofar text k t) where
  pub here : (x : Scanned) → x ≡ scanned k.text.now k.at → Found text k.at x
  here x e = subst (Found text k.at) (sym (e ∙ ap (λ l. scanned l k.at) s.same)) (found text k.at)

  pub stopped : {e : Refusal} → Fails text k.at e → Stops text e
  stopped f = record { place = f.0; uncut = s.leads.fails f.0 f.2; is = f.1 }

  pub ended : Cut k.at (drop k.at text) [] → Stores text t
  ended c = record {
    all = s.all;
    cut = subst (Cut 0 text) (append-nil s.all) (s.leads.goes [] c);
    own = s.own;
    symbols = ap (λ l. symbols_at l (spots_of t)) s.own ∙ s.symbols;
    places = s.places;
  }

  pub one_more : {n : Cutter} {u : Tokens} {place : ℕ} {g : Tag} → Next text k.at place n.at g → n.text.now ≡ k.text.now → u.text.now ≡ t.text.now → spots_of u ≡ take 501 (spots_of t ++ spot g place ∷ []) → Sofar text n u
  one_more {n} {u} {place} {g} next same own push =
      let x = placed next.symbol place in
      record {
        same = same ∙ s.same;
        own = own ∙ s.own;
        all = s.all ++ x ∷ [];
        leads = on s.leads next.leads;
        symbols = ap (symbols_at text) push ∙ more (symbol_at text) 501 (spots_of t) (spot g place) (symbols s.all) next.symbol s.symbols next.is ∙ ap (take 501) (sym (symbols_push s.all x));
        places = ap places_at push ∙ more (λ z. z.place) 501 (spots_of t) (spot g place) (places s.all) place s.places refl ∙ ap (take 501) (sym (places_push s.all x));
      }

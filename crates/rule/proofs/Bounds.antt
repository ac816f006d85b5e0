-- Counting brackets among the tokens.
use Rattle.std.proofs.Common.{◌≡◌, ℕ, zero, suc, ◌+◌, ◌<◌, List, [], ◌∷◌, length, get_or, take, drop, sym, refl, ap, ◌∙◌, subst, add-one, arith, drop-cons}
use Rattle.std.proofs.lemmas.List.{get_or-map, length-map}
use Rattle.grammar.specs.declared.Tag.{Tag}
use Rattle.grammar.specs.Symbol.{Symbol, Underscore, LeftRound, RightRound, LeftSquare, tag}
use Rattle.grammar.specs.Views.{AtBase, base_Underscore, base_LeftRound, base_LeftSquare, base_other, at_base, AfterPiece, piece_Star, piece_Dot, piece_Bar, piece_RightRound, piece_other, after_piece}
use Rattle.grammar.specs.Limits.{opening_at, claiming_at, closing_at, opening, claiming, closing, count, Stands}
use Rattle.rule.specs.declared.spot.Spot.{Spot}
use Rattle.rule.specs.declared.tokens.Tokens.{Tokens}
use Rattle.rule.specs.Tagging.{number_at}
use Rattle.rule.specs.Spots.{symbol, symbol_at}
use Rattle.rule.specs.Stored.{spots_of, symbols_of, place_in}
use Rattle.rule.proofs.Spotted.{unread, tag_symbol, place_here}

open_other : (s : Symbol) (v : AtBase s) → (s ≡ LeftRound → ⊥) → 0 ≡ opening_at v
open_other s base_Underscore n = refl
open_other s base_LeftRound n = absurd (n refl)
open_other s base_LeftSquare n = refl
open_other s (base_other t) n = refl

claim_other : (s : Symbol) (v : AtBase s) → (s ≡ LeftSquare → ⊥) → 0 ≡ claiming_at v
claim_other s base_Underscore n = refl
claim_other s base_LeftRound n = refl
claim_other s base_LeftSquare n = absurd (n refl)
claim_other s (base_other t) n = refl

close_other : (s : Symbol) (v : AfterPiece s) → (s ≡ RightRound → ⊥) → 0 ≡ closing_at v
close_other s piece_Star n = refl
close_other s piece_Dot n = refl
close_other s piece_Bar n = refl
close_other s piece_RightRound n = absurd (n refl)
close_other s (piece_other t) n = refl

-- the symbol i
abbrev pub symbol_of : List Symbol → ℕ → Symbol
symbol_of ts i = get_or ts i Underscore

count_suc : (f : Symbol → ℕ) (ts : List Symbol) (i : ℕ) → i < length ts → count f (take (suc i) ts) ≡ count f (take i ts) + f (symbol_of ts i)
count_suc f [] i h = absurd (omega arith)
count_suc f (t ∷ ts) zero h = omega arith
count_suc f (t ∷ ts) (suc i) h = omega (arith, count_suc f ts i (omega arith))

count_more : (f : Symbol → ℕ) (ts : List Symbol) (i : ℕ) → i < length ts → count f (take (i + 1) ts) ≡ count f (take i ts) + f (symbol_of ts i)
count_more f ts i h = rw (add-one i) (count_suc f ts i h)

stands_at : (ts : List Symbol) (i : ℕ) → i < length ts → Stands ts i (symbol_of ts i)
stands_at ts i h = rw (add-one i) (drop-cons ts i Underscore h)

-- the token i of the table is stored as s
pub record SpotAt (t : Tokens) (i : ℕ) (s : Spot) : Type 0 where
  pub inside : i < length (symbols_of t)
  pub place : s.place ≡ place_in t i
  pub symbol_is : symbol_of (symbols_of t) i ≡ symbol_at t.text.now s

pub spot_at : (t : Tokens) {ss : List Spot} → ss ≡ spots_of t → (i : ℕ) → i < length ss → SpotAt t i (get_or ss i unread)
spot_at t {ss} e i h =
    let k : i < length (spots_of t) = subst (λ l. i < length l) e h in
    subst (λ l. SpotAt t i (get_or l i unread)) (sym e) (record {
      inside = omega (arith, length-map (spots_of t) (symbol_at t.text.now));
      place = place_here (spots_of t) i (length t.text.now) k;
      symbol_is = get_or-map (symbol_at t.text.now) (spots_of t) i unread Underscore k;
    })

module _ {t : Tokens} {i : ℕ} {s : Spot} (a : SpotAt t i s) where
  abbrev number : ℕ
  number = number_at t.text.now s.place

  pub tagged : (k : Tag) → s.tag ≡ k → symbol_of (symbols_of t) i ≡ symbol k number
  tagged k e = a.symbol_is ∙ ap (λ j. symbol j number) e

  pub stands_here : (k : Tag) → s.tag ≡ k → Stands (symbols_of t) i (symbol k number)
  stands_here k e = stands_at (symbols_of t) i a.inside ∙ ap (λ y. y ∷ drop (i + 1) (symbols_of t)) (tagged k e)

  other : (x : Symbol) → (s.tag ≡ tag x → ⊥) → symbol_of (symbols_of t) i ≡ x → ⊥
  other x n e = n (sym (tag_symbol s.tag number) ∙ ap tag (sym a.symbol_is ∙ e))

  pub opens_none : (s.tag ≡ tag LeftRound → ⊥) → 0 ≡ opening (symbol_of (symbols_of t) i)
  opens_none n = open_other _ (at_base _) (other LeftRound n)

  pub closes_none : (s.tag ≡ tag RightRound → ⊥) → 0 ≡ closing (symbol_of (symbols_of t) i)
  closes_none n = close_other _ (after_piece _) (other RightRound n)

  pub claims_none : (s.tag ≡ tag LeftSquare → ⊥) → 0 ≡ claiming (symbol_of (symbols_of t) i)
  claims_none n = claim_other _ (at_base _) (other LeftSquare n)

  pub more : (f : Symbol → ℕ) → count f (take (i + 1) (symbols_of t)) ≡ count f (take i (symbols_of t)) + f (symbol_of (symbols_of t) i)
  more f = count_more f (symbols_of t) i a.inside

-- Stored tokens as symbols and places.
use Rattle.std.proofs.Common.{◌≡◌, ℕ, zero, suc, ◌<◌, List, [], ◌∷◌, length, Option, Some, None, get_or, drop, sym, refl, ap, ◌∙◌}
use Rattle.std.specs.Prelude.{option_map, slice_get}
use Rattle.std.proofs.Common.{Bor}
use Rattle.std.specs.Slice.{IsItemAt}
use Rattle.std.proofs.lemmas.Option.{slice_get_past, slice_get_read}
use Rattle.std.proofs.lemmas.List.{get_or-map}
use Rattle.grammar.specs.declared.Tag.{Tag}
use Rattle.grammar.specs.declared.Tag.TheVariants as tags
use Rattle.grammar.specs.Symbol.{tag}
use Rattle.rule.specs.declared.spot.Spot.{Spot}
use Rattle.rule.specs.Tagging.{number_at}
use Rattle.rule.specs.Spots.{spot, symbol, symbols_at, places_at, next_tag}

-- what a read past the end would give
abbrev pub unread : Spot
unread = spot tags.LeftSquare 0

pub tag_symbol : (k : Tag) (n : ℕ) → tag (symbol k n) ≡ k
tag_symbol tags.LeftSquare n = refl
tag_symbol tags.RightSquare n = refl
tag_symbol tags.LeftRound n = refl
tag_symbol tags.RightRound n = refl
tag_symbol tags.Bar n = refl
tag_symbol tags.Dot n = refl
tag_symbol tags.Star n = refl
tag_symbol tags.Underscore n = refl
tag_symbol tags.Quote n = refl
tag_symbol tags.Arrow n = refl
tag_symbol tags.And n = refl
tag_symbol tags.Or n = refl
tag_symbol tags.Not n = refl
tag_symbol tags.Has n = refl
tag_symbol tags.True n = refl
tag_symbol (tags.Additive s) n = refl
tag_symbol (tags.Relational r) n = refl
tag_symbol tags.Number n = refl
tag_symbol (tags.FieldName f) n = refl

tag_of : (text : List ℕ) (ss : List Spot) (k : ℕ) → option_map (λ s. s.tag) (slice_get ss k) ≡ next_tag (drop k (symbols_at text ss))
tag_of text [] zero = refl
tag_of text [] (suc k) = refl
tag_of text (s ∷ ss) zero = sym (ap Some (tag_symbol s.tag (number_at text s.place)))
tag_of text (s ∷ ss) (suc k) = tag_of text ss k

-- the tag of the token k, as `get` lends it
pub tag_next : (text : List ℕ) (ss : List Spot) (k : ℕ) (r : Option (Bor Spot)) → IsItemAt ss k r → option_map (λ s. s.now.tag) r ≡ next_tag (drop k (symbols_at text ss))
tag_next text ss k None h = sym (ap (option_map (λ (s : Spot). s.tag)) (slice_get_past ss k h.3)) ∙ tag_of text ss k
tag_next text ss k (Some x) h = sym (ap (option_map (λ (s : Spot). s.tag)) (slice_get_read ss (length ss) k x.now refl h.3.0 h.1)) ∙ tag_of text ss k

pub place_here : (ss : List Spot) (k d : ℕ) → k < length ss → (get_or ss k unread).place ≡ get_or (places_at ss) k d
place_here ss k d h = sym (get_or-map (λ s. s.place) ss k unread d h)

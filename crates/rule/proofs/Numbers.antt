-- A stored number's value is the one in the text at its place.
use Rattle.std.proofs.Common.{◌≡◌, ℕ, ◌<◌, List, ◌∷◌, length, get_or, sym, ap, ◌∙◌, arith, drop-cons}
use Rattle.std.proofs.lemmas.List.{get_or-map, length-map}
use Rattle.grammar.specs.declared.Tag.{Tag}
use Rattle.grammar.specs.declared.Tag.TheVariants as tags
use Rattle.grammar.specs.Symbol.{Symbol, Underscore, Number}
use Rattle.rule.specs.declared.tokens.Tokens.{Tokens}
use Rattle.rule.specs.Tagging.{number_at}
use Rattle.rule.specs.Spots.{symbol, symbol_at}
use Rattle.rule.specs.Readers.{Next}
use Rattle.rule.specs.Stored.{spots_of, symbols_of, number_in}
use Rattle.rule.proofs.Spotted.{unread, place_here}

differ : {A : Type 0} → ◌≡◌ {A = ℕ} 0 1 → A
differ e = absurd (omega arith)

symbol_number : (k : Tag) (m n : ℕ) → symbol k m ≡ Number n → m ≡ n
symbol_number tags.LeftSquare m n e = differ (cc)
symbol_number tags.RightSquare m n e = differ (cc)
symbol_number tags.LeftRound m n e = differ (cc)
symbol_number tags.RightRound m n e = differ (cc)
symbol_number tags.Bar m n e = differ (cc)
symbol_number tags.Dot m n e = differ (cc)
symbol_number tags.Star m n e = differ (cc)
symbol_number tags.Underscore m n e = differ (cc)
symbol_number tags.Quote m n e = differ (cc)
symbol_number tags.Arrow m n e = differ (cc)
symbol_number tags.And m n e = differ (cc)
symbol_number tags.Or m n e = differ (cc)
symbol_number tags.Not m n e = differ (cc)
symbol_number tags.Has m n e = differ (cc)
symbol_number tags.True m n e = differ (cc)
symbol_number (tags.Additive x) m n e = differ (cc)
symbol_number (tags.Relational x) m n e = differ (cc)
symbol_number tags.Number m n e = cc
symbol_number (tags.FieldName x) m n e = differ (cc)

first : {s t : Symbol} {l m : List Symbol} → s ∷ l ≡ t ∷ m → s ≡ t
first e = cc

pub number_here : (t : Tokens) (at n : ℕ) → Next (symbols_of t) at (Number n) → n ≡ number_in t at
number_here t at n h =
    let ss = spots_of t in
    let text = t.text.now in
    let inside : at < length ss = omega (arith, h.within, length-map ss (symbol_at text)) in
    let is : get_or (symbols_of t) at Underscore ≡ Number n = first (sym (drop-cons (symbols_of t) at Underscore h.within) ∙ h.here) in
    let k = get_or ss at unread in
    sym (symbol_number k.tag (number_at text k.place) n (sym (get_or-map (symbol_at text) ss at unread Underscore inside) ∙ is))
    ∙ ap (number_at text) (place_here ss at (length text) inside)

-- Which mark one byte is, and which mark two bytes are. The codes are those of ASCII: `[` is 91, `<` is 60, `=` is 61, `>` is 62.
use Rattle.std.specs.Prelude.{ℕ, cond, ◌&&◌, Some, None, Option, ◌==◌}
use Rattle.grammar.specs.Symbol.{Plus, Minus, Equal, NotEqual, Less, LessOrEqual, Greater, GreaterOrEqual, Symbol, LeftSquare, RightSquare, LeftRound, RightRound, Bar, Dot, Star, Underscore, Quote, Arrow, Additive, Relational}

abbrev pub mark_of_bytes : ℕ → ℕ → Option Symbol
mark_of_bytes a b =
    cond (a == 60 && b == 62) (Some (Relational NotEqual))
    (cond (a == 60 && b == 61) (Some (Relational LessOrEqual))
    (cond (a == 62 && b == 61) (Some (Relational GreaterOrEqual))
    (cond (a == 61 && b == 62) (Some Arrow) None)))

abbrev pub mark_of_byte : ℕ → Option Symbol
mark_of_byte a =
    cond (a == 91) (Some LeftSquare)
    (cond (a == 93) (Some RightSquare)
    (cond (a == 40) (Some LeftRound)
    (cond (a == 41) (Some RightRound)
    (cond (a == 124) (Some Bar)
    (cond (a == 46) (Some Dot)
    (cond (a == 42) (Some Star)
    (cond (a == 95) (Some Underscore)
    (cond (a == 39) (Some Quote)
    (cond (a == 43) (Some (Additive Plus))
    (cond (a == 45) (Some (Additive Minus))
    (cond (a == 61) (Some (Relational Equal))
    (cond (a == 60) (Some (Relational Less))
    (cond (a == 62) (Some (Relational Greater)) None)))))))))))))

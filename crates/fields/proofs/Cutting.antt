-- Lines cut off the input, one by one.
use Rattle.std.proofs.Common.{◌≡◌, ℕ, suc, ◌<◌, cond, List, [], ◌∷◌, ◌++◌, length, IfSome, IfNone, Some, None, Option, sym, refl, ap, ◌∙◌, subst, arith, ne_eqb, MatchOption}
use Rattle.std.proofs.lemmas.List.{nil_from_length}
use Rattle.fields.specs.Fields.{Lacks, Ended, by_mark, by_end}
use Rattle.fields.specs.Lines.{longer, lines_of}

first_byte : (byte : ℕ) (bytes : List ℕ) → Lacks 10 (byte ∷ bytes) → (more : List ℕ) → lines_of (byte ∷ more) ≡ longer byte (lines_of more)
first_byte byte bytes lacks more = ap (λ b. cond b ([] ∷ lines_of more) (longer byte (lines_of more))) (ne_eqb byte 10 (lacks 0 (omega arith)))

later : (byte : ℕ) (bytes : List ℕ) → Lacks 10 (byte ∷ bytes) → Lacks 10 bytes
later byte bytes lacks k h = lacks (suc k) (omega arith)

marked : (line rest : List ℕ) → Lacks 10 line → lines_of (line ++ (10 ∷ rest)) ≡ line ∷ lines_of rest
marked [] rest lacks = refl
marked (byte ∷ line) rest lacks = first_byte byte line lacks (line ++ (10 ∷ rest)) ∙ ap (longer byte) (marked line rest (later byte line lacks))

ended : (line : List ℕ) → 0 < length line → Lacks 10 line → lines_of line ≡ line ∷ []
ended [] some lacks = absurd (omega arith)
ended (byte ∷ []) some lacks = first_byte byte [] lacks []
ended (byte ∷ next ∷ line) some lacks = first_byte byte (next ∷ line) lacks (next ∷ line) ∙ ap (longer byte) (ended (next ∷ line) (omega arith) (later byte (next ∷ line) lacks))

pub cut_off : (bytes line rest : List ℕ) → Ended bytes line rest → Lacks 10 line → lines_of bytes ≡ line ∷ lines_of rest
cut_off bytes line rest (by_mark whole) lacks = ap lines_of whole ∙ marked line rest lacks
cut_off bytes line rest (by_end some same none) lacks = ap lines_of same ∙ ended line (subst (λ bs. 0 < length bs) same some) lacks ∙ ap (λ bs. line ∷ lines_of bs) (sym none)

-- the same of what `first_line` returns, whose parts are read by `line` and `rest`
pub next_line_cut : {X : Type 0} (bytes : List ℕ) (line rest : X → List ℕ) (r : Option X) → IfNone r (length bytes ≡ 0) → IfSome r (λ p. Ended bytes (line p) (rest p)) → IfSome r (λ p. Lacks 10 (line p)) → MatchOption r (lines_of bytes ≡ []) (λ p. lines_of bytes ≡ line p ∷ lines_of (rest p))
next_line_cut bytes line rest None none parted lacks = ap lines_of (nil_from_length bytes none)
next_line_cut bytes line rest (Some p) none parted lacks = cut_off bytes (line p) (rest p) parted lacks

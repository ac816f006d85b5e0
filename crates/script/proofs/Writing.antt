-- Text written into memory, piece by piece.
use Rattle.std.proofs.Common.{◌≡◌, ℕ, zero, suc, ◌+◌, ◌<◌, ◌≤◌, min, max, List, [], ◌∷◌, ◌++◌, length, set, sym, refl, ap, ◌∙◌, subst, append_assoc, append-nil, arith, length-append}
use Rattle.std.proofs.lemmas.List.{set_past}
use Rattle.script.specs.declared.output.Output.{Output}
use Rattle.script.specs.Output.{overlay, written, Wrote, Appended}

length_overlay : (bs text : List ℕ) → length (overlay bs text) ≡ length bs
length_overlay bs [] = refl
length_overlay [] (t ∷ ts) = refl
length_overlay (b ∷ bs) (t ∷ ts) = ap suc (length_overlay bs ts)

length_written : (bs : List ℕ) (at : ℕ) (text : List ℕ) → length (written bs at text) ≡ length bs
length_written bs zero text = length_overlay bs text
length_written [] (suc at) text = refl
length_written (b ∷ bs) (suc at) text = ap suc (length_written bs at text)

past : (at : ℕ) (text : List ℕ) → written [] at text ≡ []
past zero [] = refl
past zero (t ∷ ts) = refl
past (suc at) text = refl

-- two writes, one after the other, are one write of the joined text
twice : (bs : List ℕ) (at next : ℕ) (s t : List ℕ) → next ≡ max at (min (length bs) (at + length s)) → written (written bs at s) next t ≡ written bs at (s ++ t)
twice [] at next s t e = ap (λ cs. written cs next t) (past at s) ∙ past next t ∙ sym (past at (s ++ t))
twice (b ∷ bs) zero zero [] t e = refl
twice (b ∷ bs) zero (suc next) [] t e = absurd (omega arith)
twice (b ∷ bs) zero zero (x ∷ s) t e = absurd (omega arith)
twice (b ∷ bs) zero (suc next) (x ∷ s) t e = ap (λ cs. x ∷ cs) (twice bs zero next s t (omega arith))
twice (b ∷ bs) (suc at) zero s t e = absurd (omega arith)
twice (b ∷ bs) (suc at) (suc next) s t e = ap (λ cs. b ∷ cs) (twice bs at next s t (omega arith))

byte_set : (bs : List ℕ) (at byte : ℕ) → set bs at byte ≡ written bs at (byte ∷ [])
byte_set [] zero byte = refl
byte_set [] (suc at) byte = refl
byte_set (b ∷ bs) zero byte = refl
byte_set (b ∷ bs) (suc at) byte = ap (λ cs. b ∷ cs) (byte_set bs at byte)

pub wrote_byte : (bs : List ℕ) (at byte : ℕ) → at < length bs → Wrote bs at (byte ∷ []) (set bs at byte) (at + 1)
wrote_byte bs at byte within = record { memory = byte_set bs at byte; place = omega arith }

pub wrote_past : (bs : List ℕ) (at byte : ℕ) → length bs ≤ at → Wrote bs at (byte ∷ []) bs at
wrote_past bs at byte past = record { memory = sym (set_past bs at byte past) ∙ byte_set bs at byte; place = omega arith }

-- no text, one text after another, and equal texts
pub appended_nothing : {o : Output} → Appended o [] o
appended_nothing {o} = record { wrote = record { memory = sym (nothing o.memory.now o.place); place = omega arith }; same_reference = refl } where
  nothing : (cs : List ℕ) (k : ℕ) → written cs k [] ≡ cs
  nothing cs zero = refl
  nothing [] (suc k) = refl
  nothing (c ∷ cs) (suc k) = ap (λ ds. c ∷ ds) (nothing cs k)

pub appended_then : {o p q : Output} {s t : List ℕ} → Appended o s p → Appended p t q → Appended o (s ++ t) q
appended_then {o} {p} {q} {s} {t} first second = record {
  wrote = record {
    memory = second.wrote.memory ∙ ap (λ ms. written ms p.place t) first.wrote.memory ∙ twice o.memory.now o.place p.place s t first.wrote.place;
    place =
        let long : length p.memory.now ≡ length o.memory.now = ap length first.wrote.memory ∙ length_written o.memory.now o.place s in
        let sum = length-append s t in
        let h = first.wrote.place in
        let k = second.wrote.place in
        omega arith;
  };
  same_reference = second.same_reference ∙ first.same_reference;
}

pub appended_same : {o p : Output} {s t : List ℕ} → s ≡ t → Appended o s p → Appended o t p
appended_same {o} {p} e = subst (λ text. Appended o text p) e

-- a text that was written from the beginning on
pub wrote_whole : {bs text after : List ℕ} {next : ℕ} → Wrote bs 0 text after next → (after ≡ overlay bs text) × (next ≡ min (length bs) (length text))
wrote_whole wrote = (wrote.memory, let h = wrote.place in omega arith)

-- For loops: the text `all` is being written, and `rest` of it remains.
pub record Remains (old : Output) (all : List ℕ) (new : Output) (rest : List ℕ) : Type 0 where
  pub done : List ℕ
  pub appended : Appended old done new
  pub whole : done ++ rest ≡ all

pub remains_all : {o : Output} {all : List ℕ} → Remains o all o all
remains_all = record { done = []; appended = appended_nothing; whole = refl }

pub remains_less : {o p q : Output} {all rest s later : List ℕ} → rest ≡ s ++ later → Remains o all p rest → Appended p s q → Remains o all q later
remains_less {s = s} {later = later} e r piece = record {
  done = r.done ++ s;
  appended = appended_then r.appended piece;
  whole = append_assoc r.done s later ∙ ap (λ t. r.done ++ t) (sym e) ∙ r.whole;
}

pub remains_none : {o p : Output} {all rest : List ℕ} → rest ≡ [] → Remains o all p rest → Appended o all p
remains_none e r = appended_same (sym (append-nil r.done) ∙ ap (λ t. r.done ++ t) (sym e) ∙ r.whole) r.appended

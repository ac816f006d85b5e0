-- A refusal that is made, and one that is passed on.
use Rattle.std.proofs.Common.{◌≡◌, ℕ}
use Rattle.grammar.specs.declared.Refusal.{Refusal}
use Rattle.rule.specs.declared.tokens.Tokens.{Tokens}
use Rattle.rule.specs.Stored.{place_in, Caused}

module _ {cause : ℕ → Refusal} {t : Tokens} {e : Refusal} where
  pub faulted_at : {P : ℕ → Type 0} (k : ℕ) → e ≡ cause (place_in t k) → P k → Caused cause t P e
  faulted_at k e p = record { index = k; holds = p; is = e }

  pub faulted : {P Q : ℕ → Type 0} → ((k : ℕ) → P k → Q k) → Caused cause t P e → Caused cause t Q e
  faulted f p = record { index = p.index; holds = f p.index p.holds; is = p.is }

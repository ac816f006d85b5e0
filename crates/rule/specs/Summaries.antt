-- What matching asks of a pattern at each row.
use Rattle.std.specs.Prelude.{ℕ, ◌+◌, ◌*◌, ◌%◌, ◌^◌, min, true, false, cond, ◌&&◌, ◌||◌, bit_or, nat_lt}
use Rattle.rule.specs.declared.summary.Summary.{Summary}
use Rattle.grammar.specs.Tree.{Pattern, empty, claim, alternative, sequence, star}

-- a set of claims, counted after n others
abbrev pub after : ℕ → ℕ → ℕ
after n last = cond (nat_lt n 64) (last * 2 ^ n % 2 ^ 64) 0

abbrev pub summary_of_empty : Summary
summary_of_empty = record { nullable = true; claims = 0; last = 0 }

abbrev pub summary_of_claim : Summary
summary_of_claim = record { nullable = false; claims = 1; last = 1 }

abbrev pub summary_of_alternative : Summary → Summary → Summary
summary_of_alternative a b = record {
  nullable = a.nullable || b.nullable;
  claims = min (a.claims + b.claims) 255;
  last = bit_or a.last (after a.claims b.last);
}

abbrev pub summary_of_sequence : Summary → Summary → Summary
summary_of_sequence a b = record {
  nullable = a.nullable && b.nullable;
  claims = min (a.claims + b.claims) 255;
  last = cond b.nullable (bit_or a.last (after a.claims b.last)) (after a.claims b.last);
}

abbrev pub summary_of_star : Summary → Summary
summary_of_star a = record { nullable = true; claims = a.claims; last = a.last }

abbrev pub summary : Pattern → Summary
summary empty = summary_of_empty
summary (claim c) = summary_of_claim
summary (alternative p q) = summary_of_alternative (summary p) (summary q)
summary (sequence p q) = summary_of_sequence (summary p) (summary q)
summary (star p) = summary_of_star (summary p)

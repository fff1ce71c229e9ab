use Rattle.std.proofs.Common.{◌≡◌, min, take, drop}
use Rattle.words.specs.Words.{decimal_after, digits}
use Rattle.words.proofs.number.Given as goal

-- n is what the bytes so far write, and the word is of digits if the bytes to come are
abbrev pub invariant-loop-byte : goal.invariant-loop-byte
invariant-loop-byte l = (l.n ≡ min (decimal_after 0 (take l.byte-index l.word)) 18446744073709551615) × (digits l.word ≡ digits (drop l.byte-index l.word))

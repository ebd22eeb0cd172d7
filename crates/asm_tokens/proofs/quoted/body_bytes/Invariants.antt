-- The bytes so far, in front of what the rest gives, are what the whole gives.
use Rattle.std.proofs.Common.{◌≡◌, false, length}
use Rattle.asm_tokens.proofs.QuotedLaws.{put_front}
use Rattle.asm_tokens.specs.Lexemes.{read_quoted}
use Rattle.asm_tokens.proofs.quoted.body_bytes.Given as goal

abbrev pub invariant-loop-byte : goal.invariant-loop-byte
invariant-loop-byte l = put_front l.bytes (read_quoted false l.rest) ≡ read_quoted false l.body

abbrev pub decreases-loop-byte : goal.decreases-loop-byte
decreases-loop-byte l = length l.rest

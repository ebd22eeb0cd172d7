-- How large private memory is, where its bytes are told by a number.
use Rattle.std.proofs.Common.{◌≡◌, ◌^◌, refl}
use Rattle.mips_plain.specs.Memory.{private_size}

-- private memory has 2 ^ 20 bytes
pub private_size_is : private_size ≡ 2 ^ 20
unfolding private_size
private_size_is = refl

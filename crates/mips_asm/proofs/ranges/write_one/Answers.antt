-- A statement's bytes are as many as its size says, so they have room where it has.
use Rattle.std.proofs.Common.{◌≡◌, ◌∙◌, length, sym, arith}
use Rattle.mips_asm.specs.LabelMaps.{place_in}
use Rattle.mips_asm.proofs.SizeLaws.{Gives-size}
use Rattle.mips_asm.proofs.ranges.write_one.Goals as goal

pub write-requires : goal.write-requires
write-requires c = λ some.
    let placed = c.args.placed.now in
    let given = rw (c.place.ensures, c.content.ensures) at
    (rw c.if-not-written.false at c.in_ok-written.ensures) in
    let written : length c.as_slice.result.now ≡ placed.size =
    rw c.as_slice.ensures.value (Gives-size (place_in c.args.labels.now) placed.place
    placed.part.content _ given ∙ sym c.requires.sized) in
    let room = c.requires.room in
    let few = c.as_slice.ensures.len in
    omega (arith, some, written, room)

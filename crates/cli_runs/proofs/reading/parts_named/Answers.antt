use Rattle.std.specs.Prelude.{string_bytes}
use Rattle.cli_base.proofs.Without.{given_on}
use Rattle.cli_runs.proofs.Files.{named_stop_guests, named_stop_kernel}
use Rattle.cli_runs.proofs.Whole.{owners_whole}
use Rattle.cli_runs.proofs.reading.parts_named.Goals as goal

pub returns-in_err-guests-clause-gives : goal.returns-in_err-guests-clause-gives
returns-in_err-guests-clause-gives g c =
    given_on _ _ _ _ c.in_err-guests.field-0.0 c.from_residual-in_err-guests.result
    c.from_residual-in_err-guests.ensures.1
    (named_stop_guests _ (string_bytes c.args.run.now) c.args.file _ _ _ _ c.in_err-guests.field-0.0
    c.in_ok-owners.ensures.gives (rw c.in_ok-owners.ensures.names at
    c.in_err-guests.ensures.gives))

pub returns-in_err-kernel-clause-gives : goal.returns-in_err-kernel-clause-gives
returns-in_err-kernel-clause-gives g c =
    given_on _ _ _ _ c.in_err-kernel.field-0.0 c.from_residual-in_err-kernel.result
    c.from_residual-in_err-kernel.ensures.1
    (named_stop_kernel _ (string_bytes c.args.run.now) c.args.file
    _ _ _ _ _ _ c.in_err-kernel.field-0.0 c.in_ok-owners.ensures.gives
    (rw c.in_ok-owners.ensures.names at c.in_ok-guests.ensures.gives)
    (rw (c.in_ok-guests.ensures.names, c.in_ok-owners.ensures.names) at
    c.in_err-kernel.ensures.gives))

pub returns-clause-runnable : goal.returns-clause-runnable
returns-clause-runnable g c = record {
  file = c.requires;
  owners = owners_whole c.args.file.owners c.in_ok-owners.owners c.in_ok-owners.ensures.named
      c.requires.ids c.requires.owners;
  guests = c.in_ok-guests.ensures.fit;
  kernel = c.in_ok-kernel.ensures.fits;
}

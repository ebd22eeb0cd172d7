-- The new guest fits.
use Rattle.std.proofs.Common.{◌≡◌, ap, sym, subst}
use Rattle.line_ram.specs.Bytes.{HoldsRange}
use Rattle.session_table.specs.declared.session.SlotState.TheVariants as state
use Rattle.xom_versions.specs.Store.{area_size}
use Rattle.xom_model.specs.State.{session_of}
use Rattle.xom_ops.proofs.Fitting.{fits_built}
use Rattle.xom_ops.proofs.installs.set_up.Goals as goal

pub invariant_of-core : goal.invariant_of-core
invariant_of-core g c =
    fits_built g.V.VersionStore.versions g.met.V.VersionStore.law _ _ _ _ _ _ _ _ _ _ _ c.args.slot
    c.args.area _ _ _ _ _ _
    (ap (λ t. t.list) c.install-install.ensures.table) c.install-install.ensures.number
    c.build.ensures.ram c.build.ensures.stores
    (subst (λ w. (session_of w.core c.args.slot).state ≡ state.Free) (sym c.core.view_is)
    c.requires.free)
    (subst (λ w. HoldsRange w.core.ram c.args.area area_size) (sym c.core.view_is) c.requires.area)
    c.install.ensures.keys c.install.ensures.others c.core.invariant

use Rattle.xom_model.proofs.PagesStay.{guests_keep_pages, operations_keep_pages}
use Rattle.xom_model.proofs.laws.page_maps_stay.Goals as goal

pub returns : goal.returns
returns c = record { guests = guests_keep_pages; operations = operations_keep_pages }

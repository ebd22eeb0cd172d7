pub mod SlotStores

pub mod FormTable

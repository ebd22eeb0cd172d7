pub mod Memory
pub mod Instruction
pub mod Inside
pub mod Machine
pub mod Follows

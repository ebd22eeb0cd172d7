pub mod OperandValues

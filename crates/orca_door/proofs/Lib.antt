pub mod TwoWires

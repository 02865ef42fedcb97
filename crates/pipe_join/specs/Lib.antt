pub mod Pipelined

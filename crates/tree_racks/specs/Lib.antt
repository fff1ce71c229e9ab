pub mod Scapegoat

pub mod WholeAsk

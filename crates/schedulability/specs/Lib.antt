pub mod Laws
pub mod Proper
pub mod Layers
pub mod Refusals
pub mod LayersLemmas
pub mod Guards

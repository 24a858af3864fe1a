mod EdgeLaws

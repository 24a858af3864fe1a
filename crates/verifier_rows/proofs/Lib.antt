mod ItemLaws
